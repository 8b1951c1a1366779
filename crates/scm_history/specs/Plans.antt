-- A plan leaves with its EndStart or with its caller.
use Rattle.std.specs.Prelude.{ℕ, Bool, ◌≡◌, ◌==◌, ◌++◌, false, IsTrue, All, List, ◌∷◌, Option, Some, option_map}
use Rattle.scm_model.specs.declared.flat.Flat.{Flat}
use Rattle.scm_model.specs.declared.flat.Plan.{Plan}
use Rattle.scm_model.specs.declared.steps.Answer.{Answer}
use Rattle.scm_model.specs.declared.steps.Step.{Step}
use Rattle.scm_model.specs.declared.steps.Step.TheVariants.{EndStart}
use Rattle.start_plan.specs.Decided.{plan_caller, plan_of}
use Rattle.scm_model.specs.Entries.{Entry}
use Rattle.scm_history.specs.Callers.{takes_leave}

-- whether a step answers the start of a plan
abbrev pub ends_plan : ℕ → Step → Bool
ends_plan number (EndStart caller plan) = number == plan
ends_plan number step = false

abbrev pub target_of : List Plan → ℕ → Option ℕ
target_of plans number = option_map (λ (plan : Plan). plan.target) (plan_of plans number)

-- a plan is there, and has this caller and this target
pub record IsPlanOf (f : Flat) (number caller target : ℕ) : Type 0 where
  pub callers : plan_caller f.plans number ≡ Some caller
  pub aims : target_of f.plans number ≡ Some target

-- a plan of a caller stays with its caller and its target, unless this is its EndStart or its caller's Gone
abbrev pub PlansAreTheirCallers : Flat → Entry → Answer → Flat → Type 0
PlansAreTheirCallers before e told after =
    (number caller target : ℕ) → IsPlanOf before number caller target → (caller == 0) ≡ false
    → ends_plan number e.1 ≡ false → takes_leave caller e.1 ≡ false
    → IsPlanOf after number caller target

-- after the EndStart of a plan no entry is its EndStart again
abbrev pub EachEndsOnce : List Entry → Type 0
EachEndsOnce es =
    (number : ℕ) (front : List Entry) (e : Entry) (rest : List Entry) → es ≡ front ++ e ∷ rest → IsTrue (ends_plan number e.1)
    → All (λ (later : Entry). ends_plan number later.1 ≡ false) rest
