use Rattle.scm_launcher.proofs.Seeing.{sees_none, sees_then}
use Rattle.scm_launcher.proofs.launcher.reap.Goals as goal

pub loop-init : goal.loop-init
loop-init g c = record {
  book = c.requires.by;
  sees = sees_none c.args.book.now.opening c.args.by.now c.requires.nobody;
  all = c.requires.all;
}

pub loop-preserved : goal.loop-preserved
loop-preserved g c = record {
  book = c.join.ensures.book;
  sees = sees_then c.args.book.now.opening c.args.by.now c.loop.by c.join.new.by c.loop.invariant.sees c.join.ensures.sees;
  all = c.take_done.ensures.all;
}
