use Rattle.std.proofs.Common.{◌≡◌}
use Rattle.scm_launcher.proofs.launcher.take_done.Given as goal

-- none was taken out
abbrev pub invariant-loop-at : goal.invariant-loop-at
invariant-loop-at g l = l.runners ≡ l.fn.runners
