use Rattle.std.proofs.Common.{All, take}
use Rattle.scm_kept.specs.Fitting.{FitsDelay}
use Rattle.scm_kept.proofs.fitting.delays_fit.Given as goal

-- the delays so far fit
abbrev pub invariant-loop-action : goal.invariant-loop-action
invariant-loop-action l = All FitsDelay (take l.action-index l.actions)
