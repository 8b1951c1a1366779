-- Whose plan begins in a start that waits.
use Rattle.std.specs.Prelude.{◌≡◌, IfSome, None, Option, Some, ℕ}
use Rattle.scm_model.specs.declared.flat.Flat.{Flat}
use Rattle.scm_model.specs.declared.calls.Request.TheVariants as request
use Rattle.scm_model.specs.declared.steps.Answer.{Answer}
use Rattle.scm_model.specs.declared.steps.Step.{Step}
use Rattle.scm_model.specs.declared.steps.Step.TheVariants.{Call}
use Rattle.scm_model.specs.Entries.{Entry}
use Rattle.scm_rules.specs.Named.{plan_made}
use Rattle.scm_history.specs.Plans.{IsPlanOf}
use Rattle.scm_model.specs.Rows.{held_service}
use Rattle.scm_model.specs.declared.flat.Service.{Service}

-- a plan is the caller's, and aims at the service that was found
abbrev pub IsPlanFor : Flat → ℕ → ℕ → Option Service → Type 0
IsPlanFor f number caller None = ⊥
IsPlanFor f number caller (Some row) = IsPlanOf f number caller row.number

-- after a Start that waits its plan is there, of the caller that asked and aimed at its handle's service; no other step returns a plan
abbrev pub BeginsOwn : Flat → Step → Answer → Flat → Type 0
BeginsOwn before (Call caller (request.Start handle words) append) told after =
    IfSome (plan_made told) (λ number. IsPlanFor after number caller (held_service before caller handle))
BeginsOwn before step told after = plan_made told ≡ None

abbrev pub LawOfBegun : Flat → Entry → Answer → Flat → Type 0
LawOfBegun before e told after = BeginsOwn before e.1 told after
