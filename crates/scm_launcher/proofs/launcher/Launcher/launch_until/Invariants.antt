use Rattle.std.proofs.Common.{◌≡◌, All}
use Rattle.scm_book.specs.Passes.{IsOf}
use Rattle.scm_launcher.specs.Past.{SeesOn}
use Rattle.scm_launcher.proofs.launcher.Launcher.launch_until.Given as goal

abbrev pub invariant-loop : goal.invariant-loop
invariant-loop g l = record {
  book : IsOf l.self.book.now l.by;
  sees : SeesOn l.self.book.now.opening l.fn.by l.by;
  path : l.room.path.room ≡ l.fn.room.path.room;
  all : All (λ r. r.handle.promise.book.now ≡ l.self.book.now) l.runners.items;
}
