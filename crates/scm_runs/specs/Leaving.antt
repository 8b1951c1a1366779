-- Who leaves in a step, and nobody else.
use Rattle.std.specs.Prelude.{ℕ, Bool, ◌≡◌, true, false, not, ◌&&◌, ◌||◌, ◌==◌, ◌++◌, List, [], ◌∷◌, Option, None, Some, All, drop, filter}
use Rattle.std.specs.Prelude.{length, map, take, if◌then◌else◌}
use Rattle.std.specs.List.{AllZip}
use Rattle.scm_model.specs.declared.flat.Flat.{Flat}
use Rattle.scm_model.specs.declared.flat.Limits.{Limits}
use Rattle.scm_model.specs.declared.flat.Service.{Service}
use Rattle.scm_model.specs.declared.calls.Reply.{Reply}
use Rattle.scm_model.specs.declared.calls.Reply.TheVariants as reply
use Rattle.scm_model.specs.declared.calls.Request.TheVariants as request
use Rattle.scm_model.specs.declared.steps.Answer.{Answer}
use Rattle.scm_model.specs.declared.steps.Answer.TheVariants as answer
use Rattle.scm_model.specs.declared.steps.Step.{Step}
use Rattle.scm_model.specs.declared.steps.Step.TheVariants.{Call, Report, Ended}
use Rattle.scm_model.specs.Rows.{held_service}
use Rattle.scm_model.specs.Purge.{leaves}
use Rattle.scm_model.specs.Processes.{is_by}
use Rattle.scm_rules.specs.Failures.{is_failure}
use Rattle.scm_rules.specs.Reports.{is_reporter}
use Rattle.scm_rules.specs.Steps.{finished_step}
use Rattle.scm_model.specs.Entries.{Entry}
use Rattle.scm_model.specs.declared.codes.TheConstants.{SERVICE_STOPPED}

-- the state that a step makes, before services leave
abbrev pub before_leaving : Limits → Flat → Entry → Flat
before_leaving l f e = (finished_step l f e.0 e.1).flat

abbrev pub numbers : List Service → List ℕ
numbers rows = map (λ (row : Service). row.number) rows

-- ## What a step may change

-- whether a reply has code 0
abbrev pub has_zero : Reply → Bool
has_zero (reply.Code code) = code == 0
has_zero (reply.Handle handle code) = code == 0
has_zero (reply.State status code) = code == 0
has_zero (reply.Made tag handle code) = code == 0
has_zero (reply.Tag tag code) = code == 0
has_zero (reply.Shown config needed code) = code == 0
has_zero (reply.LockState held owner seconds needed code) = code == 0
has_zero (reply.Name name size code) = code == 0
has_zero (reply.Listing size bytes needed returned code) = code == 0
has_zero (reply.Page size bytes needed returned resume code) = code == 0
has_zero (reply.Bytes size bytes needed code) = code == 0
has_zero (reply.Notice mask status name code) = code == 0

-- whether a call was not refused
abbrev pub succeeds : Answer → Bool
succeeds (answer.Caller caller) = false
succeeds (answer.Reply told) = has_zero told
succeeds (answer.Begun plan) = true
succeeds (answer.Launch process) = false
succeeds (answer.Control code) = false
succeeds (answer.Refused code) = false
succeeds answer.Stale = false
succeeds answer.Done = false

-- the number of the service that a Create with code 0 adds
abbrev pub created : Flat → Step → Answer → List ℕ
created f (Call caller (request.Create new) append) told = if succeeds told then f.next.service ∷ [] else []
created f step told = []

-- whether a service that was found has the number
abbrev pub is_number_of : Option Service → ℕ → Bool
is_number_of None number = false
is_number_of (Some row) number = number == row.number

-- whether a handle is of the service with a number
abbrev pub is_handle_of : Flat → ℕ → ℕ → ℕ → Bool
is_handle_of f caller handle number = is_number_of (held_service f caller handle) number

-- whether a step is a Delete of the service with code 0
abbrev pub marks : Flat → Step → Answer → ℕ → Bool
marks f (Call caller (request.Delete handle) append) told number = succeeds told && is_handle_of f caller handle number
marks f step told number = false

-- whether a step is a change of the service's configuration with code 0
abbrev pub configures : Flat → Step → Answer → ℕ → Bool
configures f (Call caller (request.Change change) append) told number = succeeds told && is_handle_of f caller change.handle number
configures f (Call caller (request.Change2 handle asked) append) told number = succeeds told && is_handle_of f caller handle number
configures f step told number = false

-- whether a step gives the service a security descriptor with code 0
abbrev pub secures : Flat → Step → Answer → ℕ → Bool
secures f (Call caller (request.SetSecurity handle parts bytes) append) told number =
    succeeds told && is_handle_of f caller handle number
secures f step told number = false

-- whether a step is a report of the service's current process, its own or by a call
abbrev pub is_report : Flat → Step → Service → Bool
is_report f (Report process service status) row = is_reporter f process service row
is_report f (Call caller (request.SetStatus handle status) append) row = is_handle_of f caller handle row.number
is_report f step row = false

-- whether a step is a failure of the service: its current process ends, or a report that counts as one stops it, its own or by a call
abbrev pub fails : Flat → Step → Service → Bool
fails f (Ended process) row = is_by process row
fails f (Report process service status) row = is_reporter f process service row && is_failure status row
fails f (Call caller (request.SetStatus handle status) append) row = is_handle_of f caller handle row.number && is_failure status row
fails f step row = false

-- a service after a step is the one before it: only its Delete marks it, and only its changes give it another configuration, with another
-- type in its status, under the same name; only its SetSecurity gives it another security descriptor; as long as its current process is
-- the same and reports nothing, so is its status but for the type; only its failures are counted; and whether it is asked to start may
-- change
pub record IsSameService (f : Flat) (step : Step) (told : Answer) (old new : Service) : Type 0 where
  pub row : new ≡ record old {
    config = new.config;
    status = new.status;
    process = new.process;
    failures = new.failures;
    last_failure = new.last_failure;
    asked = new.asked;
    security = new.security;
    marked = old.marked || marks f step told old.number;
  }
  pub state : new.process ≡ old.process → is_report f step old ≡ false → new.status ≡ record old.status { kind = new.status.kind }
  pub config : configures f step told old.number ≡ false → (new.config ≡ old.config) × (new.status.kind ≡ old.status.kind)
  pub security : secures f step told old.number ≡ false → new.security ≡ old.security
  pub name : new.config.name ≡ old.config.name
  pub failures : fails f step old ≡ false → (new.failures ≡ old.failures) × (new.last_failure ≡ old.last_failure)

-- never run, and not marked
pub record IsFresh (row : Service) : Type 0 where
  pub state : row.status.state ≡ SERVICE_STOPPED
  pub process : row.process ≡ 0
  pub marked : row.marked ≡ false

-- ## The law

-- the services are those that stood, in their order and each as it was but for its own Delete or changes, with the one that a Create adds,
-- without those that are marked, STOPPED and named by no handle; and none such stands
pub record LawOfLeaving (l : Limits) (before : Flat) (e : Entry) (told : Answer) (after : Flat) : Type 0 where
  pub stood : numbers (before_leaving l before e).services ≡ numbers before.services ++ created before e.1 told
  pub rows : AllZip (IsSameService before e.1 told) before.services (take (length before.services) (before_leaving l before e).services)
  pub fresh : All IsFresh (drop (length before.services) (before_leaving l before e).services)
  pub left : after.services ≡ filter (λ (row : Service). not (leaves (before_leaving l before e).handles row))
      (before_leaving l before e).services
  pub none : All (λ (row : Service). leaves after.handles row ≡ false) after.services
