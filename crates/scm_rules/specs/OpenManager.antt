-- ROpenSCManagerW: a handle of the manager.
use Rattle.std.specs.Prelude.{ℕ, true, not, ◌||◌, nat_le, List, [], ◌∷◌, Option, is_none, unwrap_or}
use Rattle.scm_model.specs.declared.flat.Flat.{Flat}
use Rattle.scm_model.specs.declared.flat.Limits.{Limits}
use Rattle.scm_model.specs.declared.flat.HandleKind.TheVariants as kinds
use Rattle.scm_model.specs.declared.calls.Reply.TheVariants as reply
use Rattle.scm_model.specs.Rows.{held_by, principal_of}
use Rattle.scm_model.specs.Changes.{with_handle}
use Rattle.scm_model.specs.Refused.{first_refusal, outcome, Refusals}
use Rattle.scm_model.specs.Outcomes.{CallResult}
use Rattle.scm_model.specs.declared.codes.TheConstants.{ERROR_ACCESS_DENIED, ERROR_DATABASE_DOES_NOT_EXIST, ERROR_INVALID_NAME}
use Rattle.scm_model.specs.declared.codes.TheConstants.{ERROR_NOT_ENOUGH_QUOTA}
use Rattle.access_mask.specs.Granted.{granted}
use Rattle.scm_rules.specs.Names.{names_active, names_failed}
use Rattle.scm_model.specs.declared.calls.Request.TheVariants as request

-- the rights that a caller is granted on the manager
abbrev pub manager_granted : Flat → ℕ → ℕ → Option ℕ
manager_granted f caller access = granted (principal_of f caller) true access

-- what it is refused with, in this order
abbrev pub open_manager_refusals : Limits → Flat → ℕ → Option (List ℕ) → ℕ → Refusals
open_manager_refusals l f caller database access =
    (not (names_active database || names_failed database), ERROR_INVALID_NAME)
    ∷ (names_failed database, ERROR_DATABASE_DOES_NOT_EXIST)
    ∷ (is_none (manager_granted f caller access), ERROR_ACCESS_DENIED)
    ∷ (nat_le l.handles (held_by f caller), ERROR_NOT_ENOUGH_QUOTA)
    ∷ []

abbrev pub open_manager_verdict : Limits → Flat → ℕ → Option (List ℕ) → ℕ → ℕ
open_manager_verdict l f caller database access = first_refusal (open_manager_refusals l f caller database access)

abbrev pub open_manager_done : Flat → ℕ → ℕ → CallResult
open_manager_done f caller access = record {
  reply = reply.Handle f.next.handle 0;
  flat = with_handle f caller kinds.Manager (unwrap_or (manager_granted f caller access) 0);
}

abbrev pub open_manager_outcome : Limits → Flat → ℕ → Option (List ℕ) → ℕ → CallResult
open_manager_outcome l f caller database access =
    outcome (open_manager_verdict l f caller database access) (request.OpenManager database access) f (open_manager_done f caller access)
