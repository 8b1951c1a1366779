-- How a service moves in a step.
use Rattle.std.specs.Prelude.{ℕ, Bool, ◌≡◌, ◌⊎◌, ◌≤◌, true, false, ◌==◌, All, Option, None, Some, is_some, if◌then◌else◌}
use Rattle.scm_model.specs.Processes.{is_by}
use Rattle.scm_model.specs.declared.flat.Flat.{Flat}
use Rattle.scm_model.specs.declared.flat.Limits.{Limits}
use Rattle.scm_model.specs.declared.flat.Service.{Service}
use Rattle.scm_model.specs.declared.flat.Status.{Status}
use Rattle.scm_model.specs.declared.calls.Reply.TheVariants as reply
use Rattle.scm_model.specs.declared.calls.Request.TheVariants as request
use Rattle.scm_model.specs.declared.steps.Answer.{Answer}
use Rattle.scm_model.specs.declared.steps.Answer.TheVariants as answer
use Rattle.scm_model.specs.declared.steps.Step.{Step}
use Rattle.scm_model.specs.declared.steps.Step.TheVariants.{Call, LaunchFailed, Report, Ended}
use Rattle.start_plan.specs.Entered.{starting}
use Rattle.start_plan.specs.Hosting.{IsHosted}
use Rattle.status_machine.specs.Moves.{take_end, takes}
use Rattle.scm_model.specs.Entries.{Entry}
use Rattle.scm_model.specs.declared.codes.TheConstants.{ERROR_INVALID_DATA, ERROR_PROCESS_ABORTED, SERVICE_STOPPED}
use Rattle.scm_runs.specs.Leaving.{is_report}

-- the status that a step reports
abbrev pub reported_status : Step → Option Status
reported_status (Report process service status) = Some status
reported_status (Call caller (request.SetStatus handle status) append) = Some status
reported_status step = None

-- the code that is left of a service whose current process this is, where a step ends it: 1067 where it ended without a word, and that of
-- a launch that failed
abbrev pub code_of_end : Step → ℕ → Option ℕ
code_of_end (Ended ended) process = if ended == process then Some ERROR_PROCESS_ABORTED else None
code_of_end (LaunchFailed failed code) process = if failed == process then Some code else None
code_of_end step process = None

-- ## Before plans are settled

-- all is as it was but the type
abbrev pub IsAsBefore : Status → Status → Type 0
IsAsBefore old between = between ≡ record old { kind = between.kind }

-- the service's current process reports it so, and may
pub record IsReported (before : Flat) (step : Step) (old : Service) (between : Status) : Type 0 where
  pub process : 1 ≤ old.process
  pub by : is_report before step old ≡ true
  pub report : reported_status step ≡ Some between
  pub taken : takes old.status between ≡ true

-- the service's current process ends, and it is STOPPED
pub record IsFallen (step : Step) (old : Service) (between : Status) : Type 0 where
  pub process : 1 ≤ old.process
  pub code : ℕ
  pub by : code_of_end step old.process ≡ Some code
  pub fallen : between ≡ take_end old.status code

-- the status that a service has by what its process does
abbrev pub MovesItself : Flat → Step → Service → Status → Type 0
MovesItself before step old between = IsAsBefore old.status between ⊎ (IsReported before step old between ⊎ IsFallen step old between)

-- ## When plans are settled

-- it was STOPPED, and is started by a process that none had before, or by its host
pub record IsStartedAnew (before : Flat) (between : Status) (new : Service) (after : Flat) : Type 0 where
  pub stopped : between.state ≡ SERVICE_STOPPED
  pub pending : new.status ≡ starting between
  pub process : (before.next.process ≤ new.process) ⊎ IsHosted after new

-- ## The law

-- how a service stood between, what led there, and what came then
pub record Moves (before : Flat) (step : Step) (after : Flat) (old new : Service) : Type 0 where
  pub between : Status
  pub own : MovesItself before step old between
  pub later : (new.status ≡ between) ⊎ IsStartedAnew before between new after

-- the service with the same number before, if there was one, moves so
abbrev pub HasMoved : Flat → Step → Flat → Service → Type 0
HasMoved before step after new = All (λ (old : Service). old.number ≡ new.number → Moves before step after old new) before.services

-- whether a step is a report by a call
abbrev pub is_called_report : Step → Bool
is_called_report (Call caller (request.SetStatus handle status) append) = true
is_called_report step = false

-- a service moves by a report of its current process that the table allows, by the end of that process, or by being entered where it is
-- STOPPED, by a new process or its host, and by nothing else; a stale step and a report that is refused, also one by a call, move none; and
-- a process that ended or whose launch failed is no service's current one
pub record LawOfMoves (l : Limits) (before : Flat) (e : Entry) (told : Answer) (after : Flat) : Type 0 where
  pub moved : All (HasMoved before e.1 after) after.services
  pub stale : told ≡ answer.Stale → after.services ≡ before.services
  pub refused : (code : ℕ) → told ≡ answer.Refused code → (code ≡ ERROR_INVALID_DATA) × (after.services ≡ before.services)
  pub ended : (number : ℕ) → is_some (code_of_end e.1 number) ≡ true → All (λ (row : Service). is_by number row ≡ false) after.services
  pub unheard : (code : ℕ) → is_called_report e.1 ≡ true → told ≡ answer.Reply (reply.Code code) → (code == 0) ≡ false
      → after.services ≡ before.services
