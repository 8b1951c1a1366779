-- What is true of the plans and needs by which services start.
use Rattle.std.specs.Prelude.{ℕ, ◌≡◌, ◌++◌, List, All}
use Rattle.scm_model.specs.declared.flat.Flat.{Flat}
use Rattle.scm_model.specs.declared.flat.Limits.{Limits}
use Rattle.scm_model.specs.declared.flat.Plan.{Plan}
use Rattle.scm_model.specs.declared.steps.Answer.{Answer}
use Rattle.scm_model.specs.Needs.{needs_of}
use Rattle.scm_model.specs.Walks.{IsAcyclic}
use Rattle.start_plan.specs.Started.{TriedOnce}
use Rattle.scm_rules.specs.Needs.{need_rows}
use Rattle.scm_model.specs.Entries.{Entry}

-- a plan goes on: it has its caller and target, and tried what it tried before and then what it tried since
pub record GoesOn (before after : Plan) : Type 0 where
  pub caller : after.caller ≡ before.caller
  pub target : after.target ≡ before.target
  pub since : List ℕ
  pub tried : after.tried ≡ before.tried ++ since

-- the plan with the same number before, if there was one, goes on
abbrev pub WentOn : List Plan → Plan → Type 0
WentOn plans after = All (λ (before : Plan). before.number ≡ after.number → GoesOn before after) plans

-- needs have no cycle; no plan tries a service twice; and a plan stays what it was
pub record LawOfPlans (l : Limits) (before : Flat) (e : Entry) (told : Answer) (after : Flat) : Type 0 where
  pub acyclic : IsAcyclic (needs_of (need_rows after.services))
  pub tried : TriedOnce after.plans
  pub same : All (WentOn before.plans) after.plans
