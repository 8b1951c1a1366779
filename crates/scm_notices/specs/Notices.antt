-- What registrations are notified of, and what becomes of them.
use Rattle.std.specs.Prelude.{◌≡◌, ◌⊎◌, ◌==◌, ◌&&◌, ◌||◌, ◌++◌, not, ℕ, Bool, true, false, List, [], ◌∷◌, Option, None, Some, All, Contains}
use Rattle.std.specs.Prelude.{bit_and, option_map}
use Rattle.scm_history.specs.Once.{has_registration}
use Rattle.scm_model.specs.Refused.{zero_process_status}
use Rattle.scm_model.specs.declared.calls.Request.TheVariants as request
use Rattle.scm_model.specs.declared.codes.TheConstants.{SERVICE_NOTIFY_CREATED, SERVICE_NOTIFY_DELETED}
use Rattle.scm_model.specs.declared.flat.Flat.{Flat}
use Rattle.scm_model.specs.declared.flat.Limits.{Limits}
use Rattle.scm_model.specs.declared.flat.Opened.{Opened}
use Rattle.scm_model.specs.declared.flat.Registration.{Registration}
use Rattle.scm_model.specs.declared.steps.Answer.{Answer}
use Rattle.scm_model.specs.declared.steps.Step.{Step}
use Rattle.scm_model.specs.declared.steps.Step.TheVariants.{Call, Gone}
use Rattle.scm_model.specs.Entries.{Entry}
use Rattle.scm_model.specs.Notices.{Event, event_of_state, new_registration, pid_of}
use Rattle.scm_model.specs.Rows.{service_of}
use Rattle.scm_model.specs.declared.flat.Process.{Process}
use Rattle.scm_model.specs.declared.flat.Service.{Service}
use Rattle.scm_rules.specs.Named.{is_it}
use Rattle.scm_rules.specs.Notify.{notify_of, watched}
use Rattle.scm_runs.specs.Leaving.{succeeds}
use Rattle.scm_notices.specs.Events.{events_of_step, notified_first}

-- ## A registration in any state

-- whether an event is the manager's: a service came, or left
abbrev pub is_managers : ℕ → Bool
is_managers bit = bit == SERVICE_NOTIFY_CREATED || bit == SERVICE_NOTIFY_DELETED

-- its mask has the event, which is the manager's exactly where it watches the manager
pub record IsToldRightly (row : Registration) : Type 0 where
  pub asked : (bit_and row.mask row.fired == 0) ≡ false
  pub whose : is_managers row.fired ≡ (row.service == 0)

-- what it was notified of is right; without that it has neither a status nor a name; and once that was taken it is notified of nothing
pub record IsInOrder (row : Registration) : Type 0 where
  pub told : (row.fired == 0) ≡ false → IsToldRightly row
  pub untold : row.fired ≡ 0 → (row.status ≡ zero_process_status) × (row.name ≡ [])
  pub spent : row.spent ≡ true → row.fired ≡ 0

-- ## A registration over a step

-- what it was told is taken
abbrev pub taken_from : Registration → Registration
taken_from row = record row { fired = 0; status = zero_process_status; name = []; spent = true }

-- whether a step takes what a registration was told
abbrev pub takes_result : Flat → Step → Registration → Bool
takes_result f (Call caller (request.GetNotify handle) append) row = is_it row.number (notify_of f caller handle) && not (row.fired == 0)
takes_result f step row = false

-- whether a registration leaves: it is closed, or its caller is gone
abbrev pub unregisters : Flat → Step → Registration → Bool
unregisters f (Call caller (request.CloseNotify handle) append) row = is_it row.number (notify_of f caller handle)
unregisters f (Gone caller) row = row.caller == caller
unregisters f step row = false

-- what a registration that stays is after a step with these events of each service: what it was told is taken, or it is notified of the
-- first of its service's events that it waits for
pub record IsFrom (events : ℕ → List Event) (before : Flat) (step : Step) (old new : Registration) : Type 0 where
  pub stays : unregisters before step old ≡ false
  pub taken : takes_result before step old ≡ true → new ≡ taken_from old
  pub told : takes_result before step old ≡ false → new ≡ notified_first (events old.service) old

-- one that stood before the step
pub record HasStayed (events : ℕ → List Event) (before : Flat) (step : Step) (new : Registration) : Type 0 where
  pub old : Registration
  pub stood : Contains before.registrations old
  pub from : IsFrom events before step old new

-- the registration that a call asks for, which was told nothing yet
abbrev pub asked_row : Flat → Step → Option Registration
asked_row f (Call caller (request.Notify handle mask) append) =
    option_map (λ (of : Opened). new_registration f.next.registration caller of.service mask) (watched f caller handle)
asked_row f step = None

-- the state that a service is in already counts as an event of it
abbrev pub event_at_once : List Process → Option Service → List Event
event_at_once processes None = []
event_at_once processes (Some row) = event_of_state (pid_of processes row) row ∷ []

abbrev pub events_at_once : Flat → ℕ → List Event
events_at_once f service = event_at_once f.processes (service_of f service)

-- one that a step made which was not refused; it is notified of its service's state at once
pub record IsMade (events : ℕ → List Event) (before : Flat) (step : Step) (answer : Answer) (new : Registration) : Type 0 where
  pub asked : Registration
  pub by : asked_row before step ≡ Some asked
  pub granted : succeeds answer ≡ true
  pub told : new ≡ notified_first (events_at_once before asked.service ++ events asked.service) asked

abbrev pub HasComeFrom : (ℕ → List Event) → Flat → Step → Answer → Registration → Type 0
HasComeFrom events before step answer row = HasStayed events before step row ⊎ IsMade events before step answer row

-- each registration stood before the step, or was asked for by it; one that stood stays, unless it is closed or its caller is gone; and one
-- that a call asked for that was not refused is there
pub record LawOfNotices (l : Limits) (before : Flat) (e : Entry) (told : Answer) (after : Flat) : Type 0 where
  pub rows : All (HasComeFrom (events_of_step l before e) before e.1 told) after.registrations
  pub stay : All (λ row. unregisters before e.1 row ≡ false → has_registration row.number after ≡ true) before.registrations
  pub made : (asked : Registration) → asked_row before e.1 ≡ Some asked → succeeds told ≡ true → has_registration asked.number after ≡ true
