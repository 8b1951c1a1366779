use Rattle.std.proofs.Common.{All, take}
use Rattle.scm_model.specs.Entries.{Entry}
use Rattle.scm_kept.specs.Fitting.{FitsStep}
use Rattle.scm_kept.proofs.fitting.steps_fit.Given as goal

-- the steps so far fit
abbrev pub invariant-loop-entry : goal.invariant-loop-entry
invariant-loop-entry l = All (λ (e : Entry). FitsStep e.1) (take l.entry-index l.steps)
