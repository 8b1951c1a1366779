-- Whom an entry names and makes, as the rule of turns asks it, and whose a seat is.
use Rattle.std.specs.Prelude.{ℕ, List, [], ◌∷◌, ◌++◌, Option, None, Some}
use Rattle.scm_model.specs.declared.flat.Flat.{Flat}
use Rattle.scm_model.specs.declared.steps.Name.{Name}
use Rattle.scm_model.specs.declared.steps.Name.TheVariants as names
use Rattle.scm_model.specs.declared.steps.Step.{Step}
use Rattle.scm_model.specs.declared.steps.Step.TheVariants.{Joined, Gone}
use Rattle.scm_rules.specs.Named.{caller_made, caller_named, process_named, process_taken}

abbrev pub caller_names : Option ℕ → List Name
caller_names None = []
caller_names (Some number) = names.Caller number ∷ []

abbrev pub process_names : Option ℕ → List Name
process_names None = []
process_names (Some number) = names.Process number ∷ []

-- whom a step is of
abbrev pub all_names : Step → List Name
all_names step = caller_names (caller_named step) ++ process_names (process_named step)

-- the caller that joins, or the process whose launch is taken, by a step in the state before
abbrev pub names_made : Flat → Step → List Name
names_made f step = caller_names (caller_made f step) ++ process_names (process_taken f step)

-- whose a seat is that made a step in this state: the caller's that joined, nobody's once its caller went, and else whose it was
abbrev pub whose_after : Flat → ℕ → Step → ℕ
whose_after f caller (Joined principal) = f.next.caller
whose_after f caller (Gone of) = 0
whose_after f caller step = caller
