-- What was made for a step tells of the change of the configurations that it makes.
use Rattle.std.specs.Prelude.{Bool, true, Option, None, is_some}
use Rattle.scm_model.specs.declared.steps.Step.{Step}
use Rattle.scm_model.specs.declared.steps.Step.TheVariants.{Call}
use Rattle.scm_rules.specs.Verdicts.{tells_right}
use Rattle.scm_core.specs.declared.room.Prepared.{Prepared}
use Rattle.scm_model.specs.declared.steps.Change.{Change}

-- the change that a step makes if it is kept
abbrev pub change_if_kept : Prepared → Step → Option Change
change_if_kept made (Call caller asked append) = made.change
change_if_kept made step = None

-- whether it tells what became of it exactly where it makes one
abbrev pub told_in : Prepared → Step → Bool
told_in made (Call caller asked append) = tells_right (is_some made.change) append
told_in made step = true
