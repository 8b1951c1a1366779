-- RSetServiceStatus, and what a process tells of its service.
use Rattle.std.specs.Prelude.{ℕ, Bool, false, not, ◌&&◌, ◌==◌, List, [], ◌∷◌, Option, None, Some, Result, Ok, Err, filter, find, is_none}
use Rattle.std.specs.Prelude.{map}
use Rattle.std.specs.Prelude.{unwrap_or, if◌then◌else◌}
use Rattle.scm_model.specs.declared.flat.Flat.{Flat}
use Rattle.scm_model.specs.declared.flat.Order.{Order}
use Rattle.scm_model.specs.declared.flat.Process.{Process}
use Rattle.scm_model.specs.declared.flat.Registration.{Registration}
use Rattle.scm_model.specs.declared.flat.Service.{Service}
use Rattle.scm_model.specs.declared.flat.Status.{Status}
use Rattle.scm_model.specs.declared.calls.Reply.TheVariants as reply
use Rattle.scm_model.specs.declared.steps.Answer.{Answer}
use Rattle.scm_model.specs.declared.steps.Answer.TheVariants as answer
use Rattle.scm_model.specs.Found.{if_found}
use Rattle.scm_model.specs.Notices.{pid_of, notified_of_move}
use Rattle.scm_model.specs.Rows.{held_service, opened}
use Rattle.scm_model.specs.Refused.{first_refusal, outcome, Refusals}
use Rattle.scm_model.specs.Outcomes.{CallResult, StepResult}
use Rattle.scm_model.specs.declared.codes.TheConstants.{ERROR_ACCESS_DENIED, ERROR_INVALID_DATA, ERROR_INVALID_HANDLE, SERVICE_SET_STATUS}
use Rattle.scm_model.specs.declared.codes.TheConstants.{SERVICE_STOPPED}
use Rattle.status_machine.specs.Moves.{take_report, takes}
use Rattle.scm_rules.specs.Failures.{failed_by, with_failure}
use Rattle.scm_rules.specs.Launches.{is_by, is_launched, process_of, service_of_process}
use Rattle.scm_rules.specs.Rights.{lacks}
use Rattle.scm_model.specs.declared.calls.Request.TheVariants as request

-- ## Reports

-- the number of the service that a report of a process names; 0 names the one that the process was launched for
abbrev pub reporter : Flat → ℕ → ℕ → ℕ
reporter f process service = if service == 0 then unwrap_or (service_of_process f process) 0 else service

-- whether a report of a process names a service, and this is its current process
abbrev pub is_reporter : Flat → ℕ → ℕ → Service → Bool
is_reporter f process service row = row.number == reporter f process service && is_by process row

abbrev pub reporting : Flat → ℕ → ℕ → Option Service
reporting f process service = find (is_reporter f process service) f.services

-- a service that is STOPPED has no process any more
abbrev pub process_in_state : ℕ → ℕ → ℕ
process_in_state state process = if state == SERVICE_STOPPED then 0 else process

-- a report that is taken replaces the status; a service that is STOPPED isn't asked to start any more
abbrev pub moved_by : Service → Result Status ℕ → Service
moved_by row (Ok status) = record row {
  status = status;
  process = process_in_state status.state row.process;
  asked = row.asked && not (status.state == SERVICE_STOPPED);
}
moved_by row (Err code) = row

-- the service with this number takes the report
abbrev pub reported_if : ℕ → Status → Service → Service
reported_if number report row = if row.number == number then moved_by row (take_report row.status report) else row

-- registrations are notified of the state that a report brings a service to
abbrev pub notified_of_report : List Process → Status → Option Service → List Registration → List Registration
notified_of_report processes report =
    if_found (λ row. notified_of_move (pid_of processes (reported_if row.number report row)) row (reported_if row.number report row))

-- the orders of a service leave its process, where others may live there too
abbrev pub released_if : ℕ → ℕ → Process → Process
released_if process service row =
    if row.number == process && row.shared
    then record row { controls = filter (λ (order : Order). not (order.service == service)) row.controls } else row

-- whether a service takes a report that stops it
abbrev pub is_stopped_by : Status → Service → Bool
is_stopped_by report row = takes row.status report && report.state == SERVICE_STOPPED

abbrev pub released_by : Status → Service → List Process → List Process
released_by report row processes = if is_stopped_by report row then map (released_if row.process row.number) processes else processes

-- the services with a report taken by the one that was found
abbrev pub reported_in : Status → Option Service → List Service → List Service
reported_in report = if_found (λ row. map (reported_if row.number report))

-- the service, if there is one, takes the report of its current process, which may be a failure of it
abbrev pub with_report_of : Flat → Option Service → Status → Flat
with_report_of f service report =
    if_found with_failure (failed_by report service) (record f {
      services = reported_in report service f.services;
      processes = if_found (released_by report) service f.processes;
      registrations = notified_of_report f.processes report service f.registrations;
    })

-- how a report of the current process is answered
abbrev pub report_answer : Result Status ℕ → Answer
report_answer (Ok status) = answer.Done
report_answer (Err code) = answer.Refused code

-- a report is stale that names no service whose current process it is
abbrev pub report_told : Option Service → Status → Answer
report_told None report = answer.Stale
report_told (Some row) report = report_answer (take_report row.status report)

abbrev pub reported : Flat → ℕ → ℕ → Status → StepResult
reported f process service report = record {
  answer = report_told (reporting f process service) report;
  flat = with_report_of f (reporting f process service) report;
}

-- ## A report by a call

-- whether a service's current process runs and may report so
abbrev pub may_report : Flat → Option Service → Status → Bool
may_report f None report = false
may_report f (Some row) report = is_launched (process_of f row.process) && takes row.status report

abbrev pub set_status_refusals : Flat → ℕ → ℕ → Status → Refusals
set_status_refusals f caller handle report =
    (is_none (opened f caller handle), ERROR_INVALID_HANDLE)
    ∷ (lacks (opened f caller handle) SERVICE_SET_STATUS, ERROR_ACCESS_DENIED)
    ∷ (not (may_report f (held_service f caller handle) report), ERROR_INVALID_DATA)
    ∷ []

abbrev pub set_status_verdict : Flat → ℕ → ℕ → Status → ℕ
set_status_verdict f caller handle report = first_refusal (set_status_refusals f caller handle report)

abbrev pub set_status_done : Flat → ℕ → ℕ → Status → CallResult
set_status_done f caller handle report = record { reply = reply.Code 0; flat = with_report_of f (held_service f caller handle) report }

abbrev pub set_status_outcome : Flat → ℕ → ℕ → Status → CallResult
set_status_outcome f caller handle report =
    outcome (set_status_verdict f caller handle report) (request.SetStatus handle report) f (set_status_done f caller handle report)
