-- Events, and the registrations that are notified of them.
use Rattle.std.specs.Prelude.{ℕ, Bool, false, true, not, ◌&&◌, ◌==◌, bit_and, nat_le, nat_lt, ◌+◌, ◌++◌, List, [], ◌∷◌, Option, None, Some}
use Rattle.std.specs.Prelude.{filter, find, length, map, if◌then◌else◌}
use Rattle.scm_model.specs.declared.codes.TheConstants.{SERVICE_CONTINUE_PENDING, SERVICE_PAUSED, SERVICE_PAUSE_PENDING, SERVICE_RUNNING}
use Rattle.scm_model.specs.declared.codes.TheConstants.{SERVICE_START_PENDING, SERVICE_STOPPED, SERVICE_STOP_PENDING}
use Rattle.scm_model.specs.declared.codes.TheConstants.{SERVICE_NOTIFY_CONTINUE_PENDING, SERVICE_NOTIFY_CREATED, SERVICE_NOTIFY_DELETED}
use Rattle.scm_model.specs.declared.codes.TheConstants.{SERVICE_NOTIFY_DELETE_PENDING, SERVICE_NOTIFY_PAUSED, SERVICE_NOTIFY_PAUSE_PENDING}
use Rattle.scm_model.specs.declared.codes.TheConstants.{SERVICE_NOTIFY_RUNNING, SERVICE_NOTIFY_START_PENDING, SERVICE_NOTIFY_STOPPED}
use Rattle.scm_model.specs.declared.codes.TheConstants.{SERVICE_NOTIFY_STOP_PENDING}
use Rattle.scm_model.specs.declared.flat.Flat.{Flat}
use Rattle.scm_model.specs.declared.flat.Process.{Process}
use Rattle.scm_model.specs.declared.flat.ProcessStatus.{ProcessStatus}
use Rattle.scm_model.specs.declared.flat.Registration.{Registration}
use Rattle.scm_model.specs.declared.flat.Service.{Service}
use Rattle.scm_model.specs.declared.flat.Status.{Status}
use Rattle.scm_model.specs.Refused.{zero_process_status}

-- ## Events

pub record Event : Type 0 where
  pub service : ℕ  -- 0 where it is the manager's
  pub bit : ℕ
  pub status : ProcessStatus
  pub name : List ℕ

-- the event that a state is; no state has another number
abbrev pub state_mask : ℕ → ℕ
state_mask state =
    if state == SERVICE_STOPPED then SERVICE_NOTIFY_STOPPED
    else if state == SERVICE_START_PENDING then SERVICE_NOTIFY_START_PENDING
    else if state == SERVICE_STOP_PENDING then SERVICE_NOTIFY_STOP_PENDING
    else if state == SERVICE_RUNNING then SERVICE_NOTIFY_RUNNING
    else if state == SERVICE_CONTINUE_PENDING then SERVICE_NOTIFY_CONTINUE_PENDING
    else if state == SERVICE_PAUSE_PENDING then SERVICE_NOTIFY_PAUSE_PENDING
    else if state == SERVICE_PAUSED then SERVICE_NOTIFY_PAUSED
    else 0

-- the system's number of a process, or 0
abbrev pub pid_in : Option Process → ℕ
pid_in None = 0
pid_in (Some process) = process.pid

-- the system's number of a service's current process, or 0
abbrev pub pid_of : List Process → Service → ℕ
pid_of processes row = if row.process == 0 then 0 else pid_in (find (λ (process : Process). process.number == row.process) processes)

abbrev pub with_pid : Status → ℕ → ProcessStatus
with_pid status pid = record { status = status; pid = pid; flags = 0 }

-- the state of a service
abbrev pub event_of_state : ℕ → Service → Event
event_of_state pid row = record {
  service = row.number;
  bit = state_mask row.status.state;
  status = with_pid row.status pid;
  name = row.config.name;
}

-- a service is marked
abbrev pub event_of_mark : ℕ → Service → Event
event_of_mark pid row = record {
  service = row.number;
  bit = SERVICE_NOTIFY_DELETE_PENDING;
  status = with_pid row.status pid;
  name = row.config.name;
}

-- the manager has a service more
abbrev pub event_of_creation : List ℕ → Status → Event
event_of_creation name status = record { service = 0; bit = SERVICE_NOTIFY_CREATED; status = with_pid status 0; name = name }

-- a service leaves the manager
abbrev pub event_of_leaving : Service → Event
event_of_leaving row = record { service = 0; bit = SERVICE_NOTIFY_DELETED; status = with_pid row.status 0; name = row.config.name }

-- ## What registrations are notified of

-- whether a registration waits for an event: of its service or the manager, and in its mask
abbrev pub takes_event : Event → Registration → Bool
takes_event event row = row.service == event.service && row.fired == 0 && not row.spent && not (bit_and row.mask event.bit == 0)

abbrev pub notified : Event → Registration → Registration
notified event row = if takes_event event row then record row { fired = event.bit; status = event.status; name = event.name } else row

abbrev pub noted : Event → List Registration → List Registration
noted event rows = map (notified event) rows

-- one event after another
abbrev pub all_noted : List Event → List Registration → List Registration
all_noted [] rows = rows
all_noted (event ∷ events) rows = all_noted events (noted event rows)

-- a change to another state is an event
abbrev pub notified_of_move : ℕ → Service → Service → List Registration → List Registration
notified_of_move pid old new rows = if old.status.state == new.status.state then rows else noted (event_of_state pid new) rows

abbrev pub with_noted : Flat → Event → Flat
with_noted f event = record f { registrations = noted event f.registrations }

-- ## Registrations come and leave

-- one that was told nothing yet
abbrev pub new_registration : ℕ → ℕ → ℕ → ℕ → Registration
new_registration number caller service mask =
    record {
      number = number;
      caller = caller;
      service = service;
      mask = mask;
      fired = 0;
      status = zero_process_status;
      name = [];
      spent = false;
    }

-- registrations stand in the order of their services, and those of one in the order in which they came
abbrev pub put_in : Registration → List Registration → List Registration
put_in new rows =
    filter (λ (row : Registration). nat_le row.service new.service) rows
    ++ new ∷ filter (λ (row : Registration). nat_lt new.service row.service) rows

-- a registration more, which has the next number
abbrev pub with_registration : Flat → Registration → Flat
with_registration f row = record f {
  registrations = put_in row f.registrations;
  next = record f.next { registration = f.next.registration + 1 };
}

abbrev pub without_registration : Flat → ℕ → Flat
without_registration f number = record f { registrations = filter (λ (row : Registration). not (row.number == number)) f.registrations }

abbrev pub registration_of : Flat → ℕ → Option Registration
registration_of f number = find (λ (row : Registration). row.number == number) f.registrations

-- how many a caller has
abbrev pub registered_by : Flat → ℕ → ℕ
registered_by f caller = length (filter (λ (row : Registration). row.caller == caller) f.registrations)

-- what a registration was told is taken once, and no second event comes
abbrev pub taken_once : ℕ → Registration → Registration
taken_once number row =
    if row.number == number && not (row.fired == 0) then record row { fired = 0; status = zero_process_status; name = []; spent = true }
    else row

abbrev pub with_taken_result : Flat → ℕ → Flat
with_taken_result f number = record f { registrations = map (taken_once number) f.registrations }
