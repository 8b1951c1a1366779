-- RQueryServiceStatusEx: the status of a service with its process.
use Rattle.std.specs.Prelude.{ℕ, not, ◌==◌, nat_lt, List, [], ◌∷◌, Option, None, Some, is_none, if◌then◌else◌}
use Rattle.scm_model.specs.declared.flat.Flat.{Flat}
use Rattle.scm_model.specs.declared.flat.Process.{Process}
use Rattle.scm_model.specs.declared.flat.ProcessStatus.{ProcessStatus}
use Rattle.scm_model.specs.declared.flat.Service.{Service}
use Rattle.scm_model.specs.declared.calls.Reply.{Reply}
use Rattle.scm_model.specs.declared.calls.Reply.TheVariants as reply
use Rattle.scm_model.specs.Notices.{pid_of, with_pid}
use Rattle.scm_model.specs.Rows.{held_service, opened}
use Rattle.scm_model.specs.Refused.{answered, first_refusal, zero_process_status, Refusals}
use Rattle.scm_model.specs.Outcomes.{CallResult}
use Rattle.scm_model.specs.declared.codes.TheConstants.{ERROR_ACCESS_DENIED, ERROR_INSUFFICIENT_BUFFER, ERROR_INVALID_HANDLE}
use Rattle.scm_model.specs.declared.codes.TheConstants.{ERROR_INVALID_LEVEL, SC_STATUS_PROCESS_INFO, SERVICE_QUERY_STATUS}
use Rattle.service_listing.specs.Layout.{process_status_bytes}
use Rattle.scm_rules.specs.Rights.{lacks}

-- the status of a service that is there, with the system's number of its current process
abbrev pub process_status_in : List Process → Option Service → ProcessStatus
process_status_in processes None = zero_process_status
process_status_in processes (Some row) = with_pid row.status (pid_of processes row)

abbrev pub process_status_by : Flat → ℕ → ℕ → ProcessStatus
process_status_by f caller handle = process_status_in f.processes (held_service f caller handle)

abbrev pub query_ex_refusals : Flat → ℕ → ℕ → ℕ → ℕ → Refusals
query_ex_refusals f caller handle level size =
    (is_none (opened f caller handle), ERROR_INVALID_HANDLE)
    ∷ (lacks (opened f caller handle) SERVICE_QUERY_STATUS, ERROR_ACCESS_DENIED)
    ∷ (not (level == SC_STATUS_PROCESS_INFO), ERROR_INVALID_LEVEL)
    ∷ (nat_lt size 36, ERROR_INSUFFICIENT_BUFFER)
    ∷ []

abbrev pub query_ex_verdict : Flat → ℕ → ℕ → ℕ → ℕ → ℕ
query_ex_verdict f caller handle level size = first_refusal (query_ex_refusals f caller handle level size)

-- if the size is too small, the reply has the size needed
abbrev pub query_ex_told : ℕ → ℕ → Reply
query_ex_told size code = reply.Bytes size [] (if code == ERROR_INSUFFICIENT_BUFFER then 36 else 0) code

abbrev pub query_ex_done : Flat → ℕ → ℕ → ℕ → CallResult
query_ex_done f caller handle size = record {
  reply = reply.Bytes size (process_status_bytes (process_status_by f caller handle)) 0 0;
  flat = f;
}

-- what the call is answered
abbrev pub query_ex_reply : Flat → ℕ → ℕ → ℕ → ℕ → Reply
query_ex_reply f caller handle level size =
    let code = query_ex_verdict f caller handle level size in
    (answered code (query_ex_told size code) f (query_ex_done f caller handle size)).reply
