use Rattle.std.proofs.Common.{◌≡◌, All}
use Rattle.scm_book.specs.Passes.{IsOf}
use Rattle.scm_launcher.specs.Past.{SeesOn}
use Rattle.scm_launcher.proofs.launcher.reap.Given as goal

abbrev pub invariant-loop : goal.invariant-loop
invariant-loop g l = record {
  book : IsOf l.book l.by;
  sees : SeesOn l.book.opening l.fn.by l.by;
  all : All (λ r. r.handle.promise.book.now ≡ l.book) l.runners.items;
}
