-- Which plans a decision is of.
use Rattle.std.specs.Prelude.{ℕ, Bool, ◌&&◌, ◌==◌, List, Some, is_none, if◌then◌else◌}
use Rattle.scm_model.specs.declared.flat.Plan.{Plan}
use Rattle.scm_text.specs.Numbers.{has}

abbrev pub aims_at : ℕ → Plan → Bool
aims_at target plan = plan.target == target

abbrev pub aims_among : List ℕ → Plan → Bool
aims_among targets plan = has targets plan.target

-- an undecided plan that passes the test is decided; a decision stays
abbrev pub decided_if : (Plan → Bool) → ℕ → Plan → Plan
decided_if test code plan = record plan { code = if test plan && is_none plan.code then Some code else plan.code }
