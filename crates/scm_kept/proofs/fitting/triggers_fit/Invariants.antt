use Rattle.std.proofs.Common.{All, take}
use Rattle.scm_kept.specs.Fitting.{FitsTrigger}
use Rattle.scm_kept.proofs.fitting.triggers_fit.Given as goal

-- the triggers so far fit
abbrev pub invariant-loop-asked : goal.invariant-loop-asked
invariant-loop-asked l = All FitsTrigger (take l.asked-index l.list)
