-- ROpenServiceW: a handle of a service, which may be marked.
use Rattle.std.specs.Prelude.{ℕ, false, nat_le, List, [], ◌∷◌, Option, bit_and, is_none, unwrap_or}
use Rattle.scm_model.specs.declared.flat.Flat.{Flat}
use Rattle.scm_model.specs.declared.flat.Service.{Service}
use Rattle.scm_model.specs.declared.flat.Limits.{Limits}
use Rattle.scm_model.specs.declared.flat.HandleKind.TheVariants as kinds
use Rattle.scm_model.specs.declared.calls.Reply.TheVariants as reply
use Rattle.scm_model.specs.Found.{if_found}
use Rattle.scm_model.specs.Rows.{held_by, manager_mask, named, principal_of}
use Rattle.scm_model.specs.Changes.{with_handle}
use Rattle.scm_model.specs.Refused.{first_refusal, outcome, Refusals}
use Rattle.scm_model.specs.Outcomes.{CallResult}
use Rattle.scm_model.specs.declared.codes.TheConstants.{ERROR_ACCESS_DENIED, ERROR_INVALID_HANDLE, ERROR_INVALID_NAME}
use Rattle.scm_model.specs.declared.codes.TheConstants.{ERROR_NOT_ENOUGH_QUOTA, ERROR_SERVICE_DOES_NOT_EXIST}
use Rattle.access_mask.specs.Granted.{granted}
use Rattle.service_record.specs.Checks.{is_bad_name}
use Rattle.scm_model.specs.declared.calls.Request.TheVariants as request
use Rattle.scm_rules.specs.Security.{service_allowed}

-- the rights that a caller is granted on any service
abbrev pub service_granted : Flat → ℕ → ℕ → Option ℕ
service_granted f caller access = granted (principal_of f caller) false access

-- what it is refused with, in this order
abbrev pub open_service_refusals : Limits → Flat → ℕ → ℕ → List ℕ → ℕ → Refusals
open_service_refusals l f caller handle name access =
    (is_none (manager_mask f caller handle), ERROR_INVALID_HANDLE)
    ∷ (is_bad_name name, ERROR_INVALID_NAME)
    ∷ (is_none (named f name), ERROR_SERVICE_DOES_NOT_EXIST)
    ∷ (is_none (service_granted f caller access), ERROR_ACCESS_DENIED)
    ∷ (is_none (service_allowed f caller name access), ERROR_ACCESS_DENIED)
    ∷ (nat_le l.handles (held_by f caller), ERROR_NOT_ENOUGH_QUOTA)
    ∷ []

abbrev pub open_service_verdict : Limits → Flat → ℕ → ℕ → List ℕ → ℕ → ℕ
open_service_verdict l f caller handle name access = first_refusal (open_service_refusals l f caller handle name access)

-- the rights on a service that are granted and that its descriptor allows: unless MAXIMUM_ALLOWED is asked for, both are what is asked for
abbrev pub open_service_rights : Flat → ℕ → List ℕ → ℕ → ℕ
open_service_rights f caller name access =
    bit_and (unwrap_or (service_granted f caller access) 0) (unwrap_or (service_allowed f caller name access) 0)

-- a handle more, which is of the service
abbrev pub with_opened : ℕ → ℕ → Service → Flat → Flat
with_opened caller granted row f = with_handle f caller (kinds.Service row.number) granted

abbrev pub open_service_done : Flat → ℕ → List ℕ → ℕ → CallResult
open_service_done f caller name access = record {
  reply = reply.Handle f.next.handle 0;
  flat = if_found (with_opened caller (open_service_rights f caller name access)) (named f name) f;
}

abbrev pub open_service_outcome : Limits → Flat → ℕ → ℕ → List ℕ → ℕ → CallResult
open_service_outcome l f caller handle name access =
    outcome (open_service_verdict l f caller handle name access) (request.OpenService handle name access) f
    (open_service_done f caller name access)
