-- What a service's security descriptor leaves of the rights on a handle that is opened.
use Rattle.std.specs.Prelude.{ℕ, ◌≡◌, true, All, IsSomeAnd, List, Some, option_map}
use Rattle.scm_model.specs.declared.flat.Flat.{Flat}
use Rattle.scm_model.specs.declared.flat.HandleKind.{HandleKind}
use Rattle.scm_model.specs.declared.flat.HandleKind.TheVariants as kinds
use Rattle.scm_model.specs.declared.flat.HandleRow.{HandleRow}
use Rattle.scm_model.specs.declared.flat.Service.{Service}
use Rattle.scm_model.specs.declared.calls.Request.TheVariants as request
use Rattle.scm_model.specs.declared.steps.Answer.{Answer}
use Rattle.scm_model.specs.declared.steps.Step.{Step}
use Rattle.scm_model.specs.declared.steps.Step.TheVariants.{Call}
use Rattle.scm_model.specs.Entries.{Entry}
use Rattle.scm_model.specs.Rows.{named}
use Rattle.scm_rules.specs.OpenService.{service_granted}
use Rattle.scm_rules.specs.Security.{service_allowed}
use Rattle.scm_text.specs.Numbers.{has_bits}

abbrev pub handle_kind : Service → HandleKind
handle_kind row = kinds.Service row.number

-- a handle is of the service with a name, and each of its rights is one that the rules grant the caller and that the service's descriptor
-- allows it
pub record IsNarrowed (f : Flat) (caller : ℕ) (name : List ℕ) (access : ℕ) (row : HandleRow) : Type 0 where
  pub service : option_map handle_kind (named f name) ≡ Some row.kind
  pub granted : IsSomeAnd (service_granted f caller access) (λ mask. has_bits mask row.granted ≡ true)
  pub allowed : IsSomeAnd (service_allowed f caller name access) (λ mask. has_bits mask row.granted ≡ true)

-- the handle that a step opens of a service has the next number
abbrev pub NarrowsOpened : Flat → Step → Flat → Type 0
NarrowsOpened before (Call caller (request.OpenService handle name access) append) after =
    All (λ (row : HandleRow). row.number ≡ before.next.handle → IsNarrowed before caller name access row) after.handles
NarrowsOpened before step after = Unit {0}

-- a service that is opened is narrowed by its descriptor in the state before
abbrev pub LawOfSecurity : Flat → Entry → Answer → Flat → Type 0
LawOfSecurity before e told after = NarrowsOpened before e.1 after
