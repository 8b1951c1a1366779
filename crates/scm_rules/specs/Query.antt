-- RQueryServiceStatus: the status of a service.
use Rattle.std.specs.Prelude.{ℕ, [], ◌∷◌, Option, None, Some, is_none}
use Rattle.scm_model.specs.declared.flat.Flat.{Flat}
use Rattle.scm_model.specs.declared.flat.Status.{Status}
use Rattle.scm_model.specs.declared.flat.Service.{Service}
use Rattle.scm_model.specs.declared.calls.Reply.TheVariants as reply
use Rattle.scm_model.specs.Rows.{held_service, opened}
use Rattle.scm_model.specs.Refused.{first_refusal, zero_status, outcome, Refusals}
use Rattle.scm_model.specs.Outcomes.{CallResult}
use Rattle.scm_model.specs.declared.codes.TheConstants.{ERROR_ACCESS_DENIED, ERROR_INVALID_HANDLE, SERVICE_QUERY_STATUS}
use Rattle.scm_rules.specs.Rights.{lacks}
use Rattle.scm_model.specs.declared.calls.Request.TheVariants as request

-- the status of a service that is there
abbrev pub status_in : Option Service → Status
status_in None = zero_status
status_in (Some row) = row.status

-- what it is refused with, in this order
abbrev pub query_refusals : Flat → ℕ → ℕ → Refusals
query_refusals f caller handle =
    (is_none (opened f caller handle), ERROR_INVALID_HANDLE)
    ∷ (lacks (opened f caller handle) SERVICE_QUERY_STATUS, ERROR_ACCESS_DENIED)
    ∷ []

abbrev pub query_verdict : Flat → ℕ → ℕ → ℕ
query_verdict f caller handle = first_refusal (query_refusals f caller handle)

abbrev pub query_done : Flat → ℕ → ℕ → CallResult
query_done f caller handle = record { reply = reply.State (status_in (held_service f caller handle)) 0; flat = f }

abbrev pub query_outcome : Flat → ℕ → ℕ → CallResult
query_outcome f caller handle = outcome (query_verdict f caller handle) (request.QueryStatus handle) f (query_done f caller handle)
