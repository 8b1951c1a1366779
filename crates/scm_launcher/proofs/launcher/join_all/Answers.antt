use Rattle.std.proofs.Common.{◌≡◌, ◌-◌}
use Rattle.scm_launcher.proofs.Lists.{all_front}
use Rattle.scm_launcher.proofs.Seeing.{sees_then}
use Rattle.scm_launcher.proofs.launcher.join_all.Goals as goal

pub loop-preserved : goal.loop-preserved
loop-preserved g c = record {
  book = c.join.ensures.book;
  sees = sees_then c.args.book.now.opening c.args.by.now c.loop.by c.join.new.by c.loop.invariant.sees c.join.ensures.sees;
  all = all_front c.loop.runners.items c.pop.new.self.items (c.loop.runners.len - 1)
      (λ r. r.handle.promise.book.now ≡ c.args.book.now) c.pop.ensures.rest
      c.loop.invariant.all;
}
