-- The steps that a plan may still bring.
use Rattle.std.specs.Prelude.{ℕ, ◌+◌, ◌*◌, ◌==◌, List, [], ◌∷◌, is_some, if◌then◌else◌}
use Rattle.scm_model.specs.declared.flat.Plan.{Plan}
use Rattle.scm_text.specs.Numbers.{has}

-- the sum of what each row counts for
abbrev pub total : {A : Type 0} → (A → ℕ) → List A → ℕ
total count [] = 0
total count (row ∷ rows) = count row + total count rows

-- how many of some services a plan may still enter
abbrev pub untried : List ℕ → List ℕ → ℕ
untried tried [] = 0
untried tried (entry ∷ entries) = (if has tried entry then 0 else 1) + untried tried entries

-- a start that waits is ended
abbrev pub owed_to : ℕ → ℕ
owed_to caller = if caller == 0 then 0 else 1

-- an undecided plan may bring a process for each service that it hasn't tried
abbrev pub owed_by_plan : Plan → ℕ
owed_by_plan plan = owed_to plan.caller + (if is_some plan.code then 0 else 3 * untried plan.tried plan.entries)
