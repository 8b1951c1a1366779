-- What is true of each service that is entered.
use Rattle.std.specs.Prelude.{Bool, ◌≡◌, true, false, None, not, ◌&&◌, ◌||◌, ◌==◌, All}
use Rattle.std.specs.List.{list_any}
use Rattle.scm_model.specs.declared.flat.Flat.{Flat}
use Rattle.scm_model.specs.declared.flat.Limits.{Limits}
use Rattle.scm_model.specs.declared.flat.Service.{Service}
use Rattle.scm_model.specs.declared.calls.Request.TheVariants as request
use Rattle.scm_model.specs.declared.steps.Answer.{Answer}
use Rattle.scm_model.specs.declared.steps.Step.{Step}
use Rattle.scm_model.specs.declared.steps.Step.TheVariants.{Call, Report}
use Rattle.scm_model.specs.Ready.{is_ready}
use Rattle.scm_model.specs.Entries.{Entry}
use Rattle.scm_model.specs.declared.codes.TheConstants.{SERVICE_DISABLED, SERVICE_START_PENDING}
use Rattle.scm_rules.specs.Reports.{is_reporter, is_stopped_by, set_status_verdict}
use Rattle.scm_runs.specs.Leaving.{is_handle_of}

-- a service is START_PENDING: all that it needs is up, it is neither marked nor disabled, and the lock is free
pub record IsStarting (f : Flat) (row : Service) : Type 0 where
  pub pending : row.status.state ≡ SERVICE_START_PENDING
  pub ready : is_ready f row ≡ true
  pub unmarked : row.marked ≡ false
  pub enabled : (row.config.start == SERVICE_DISABLED) ≡ false
  pub free : f.lock ≡ None

-- ## Who is entered

-- whether a step is a report that stops a service, its own or by a call, and is taken
abbrev pub is_stopping : Flat → Step → Service → Bool
is_stopping f (Report process service status) row = is_reporter f process service row && is_stopped_by status row
is_stopping f (Call caller (request.SetStatus handle status) append) row =
    set_status_verdict f caller handle status == 0 && is_handle_of f caller handle row.number && is_stopped_by status row
is_stopping f step row = false

-- whether a service had its process before
abbrev pub had_process : Flat → Service → Bool
had_process before row = list_any (λ (old : Service). old.number == row.number && old.process == row.process) before.services

-- whether a service was START_PENDING by this process before, and a step doesn't stop it
abbrev pub starts_on : Flat → Step → Service → Service → Bool
starts_on before step row old = old.number == row.number && old.process == row.process && old.status.state == SERVICE_START_PENDING
    && not (is_stopping before step old)

-- whether a service is START_PENDING now that was not, or by another process, or that the step stopped
abbrev pub is_entered : Flat → Step → Service → Bool
is_entered before step row = row.status.state == SERVICE_START_PENDING && not (list_any (starts_on before step row) before.services)

-- ## The law

-- a service that is entered can start; and any service has no process, the one that it had before, or was entered
pub record LawOfStarts (l : Limits) (before : Flat) (e : Entry) (told : Answer) (after : Flat) : Type 0 where
  pub started : All (λ (row : Service). is_entered before e.1 row ≡ true → IsStarting after row) after.services
  pub others : All (λ (row : Service). (row.process == 0 || had_process before row || is_entered before e.1 row) ≡ true) after.services
