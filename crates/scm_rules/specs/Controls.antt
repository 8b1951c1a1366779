-- RControlService: a control that waits for a service's process.
use Rattle.std.specs.Prelude.{ℕ, Bool, false, not, ◌&&◌, ◌||◌, ◌==◌, ◌++◌, ◌+◌, ◌-◌, ◌^◌, min, nat_lt, List, [], ◌∷◌, Option, None, Some}
use Rattle.std.specs.Prelude.{drop, filter}
use Rattle.std.specs.Prelude.{find, length, map, option_map, if◌then◌else◌}
use Rattle.std.specs.List.{list_any}
use Rattle.scm_model.specs.declared.flat.Flat.{Flat}
use Rattle.scm_model.specs.declared.flat.Limits.{Limits}
use Rattle.scm_model.specs.declared.flat.Opened.{Opened}
use Rattle.scm_model.specs.declared.flat.Order.{Order}
use Rattle.scm_model.specs.declared.flat.Process.{Process}
use Rattle.scm_model.specs.declared.flat.Service.{Service}
use Rattle.scm_model.specs.declared.flat.Status.{Status}
use Rattle.scm_model.specs.declared.calls.Reply.{Reply}
use Rattle.scm_model.specs.declared.calls.Reply.TheVariants as reply
use Rattle.scm_model.specs.declared.steps.Answer.{Answer}
use Rattle.scm_model.specs.declared.steps.Answer.TheVariants as answer
use Rattle.scm_model.specs.Found.{if_found}
use Rattle.scm_model.specs.Rows.{held_service, opened}
use Rattle.scm_model.specs.Refused.{zero_status, answered}
use Rattle.scm_model.specs.Outcomes.{CallResult, StepResult}
use Rattle.scm_model.specs.declared.codes.TheConstants.{ERROR_INVALID_SERVICE_CONTROL, ERROR_SERVICE_CANNOT_ACCEPT_CTRL}
use Rattle.scm_model.specs.declared.codes.TheConstants.{ERROR_SERVICE_NOT_ACTIVE, SERVICE_STOPPED}
use Rattle.control_dispatch.specs.Judging.{judge}
use Rattle.dependency_index.specs.Naming.{is_for}
use Rattle.scm_rules.specs.Launches.{is_by, process_of}
use Rattle.scm_rules.specs.Query.{status_in}

-- ## Controls that wait

abbrev pub controls_in : Option Process → List Order
controls_in None = []
controls_in (Some row) = row.controls

-- the orders that wait for a process
abbrev pub controls_of : Flat → ℕ → List Order
controls_of f process = controls_in (process_of f process)

-- the order that waits first
abbrev pub first_control : List Order → Option Order
first_control [] = None
first_control (order ∷ orders) = Some order

-- whether this is a service's process, which is still to be sent that the service is to start
abbrev pub is_asked_by : ℕ → Service → Bool
is_asked_by process row = is_by process row && row.asked

abbrev pub first_asked : Flat → ℕ → Option Service
first_asked f process = find (is_asked_by process) f.services

-- what is sent to a process next: that a service is to start, the first in order, which has code 0, and else the order that waits first
abbrev pub next_by : Option Service → Option Order → Option Order
next_by None order = order
next_by (Some row) order = Some (record { service = row.number; code = 0 })

abbrev pub next_order : Flat → ℕ → Option Order
next_order f process = next_by (first_asked f process) (first_control (controls_of f process))

-- how many services to start and orders are still to be sent to a process that is listed
abbrev pub waiting : Flat → ℕ → Option ℕ
waiting f process =
    option_map (λ (row : Process). length row.controls + length (filter (is_asked_by process) f.services)) (process_of f process)

-- a control for a service, as its process receives it
abbrev pub order_to : ℕ → ℕ → Order
order_to service code = record { service = service; code = code }

-- as long as fewer wait than may, one more does
abbrev pub controlled_if : ℕ → ℕ → Order → Process → Process
controlled_if limit process order row =
    if row.number == process && nat_lt (length row.controls) limit then record row { controls = row.controls ++ order ∷ [] } else row

abbrev pub with_control : Limits → Flat → ℕ → Order → Flat
with_control l f process order = record f { processes = map (controlled_if l.controls process order) f.processes }

abbrev pub dequeued_if : ℕ → Process → Process
dequeued_if process row = if row.number == process then record row { controls = drop 1 row.controls } else row

-- the service with this number is asked no more
abbrev pub unasked_if : ℕ → Service → Service
unasked_if number row = if row.number == number then record row { asked = false } else row

-- the service that was found is asked no more
abbrev pub unasked_in : Option Service → List Service → List Service
unasked_in = if_found (λ (row : Service). map (unasked_if row.number))

-- where none was found, the order that waits first leaves
abbrev pub dequeued_in : Option Service → ℕ → List Process → List Process
dequeued_in None process rows = map (dequeued_if process) rows
dequeued_in (Some row) process rows = rows

-- what is sent first is taken
abbrev pub with_control_taken : Flat → ℕ → Flat
with_control_taken f process = record f {
  services = unasked_in (first_asked f process) f.services;
  processes = dequeued_in (first_asked f process) process f.processes;
}

-- the answer when an order is taken: the order, or Done if none waits
abbrev pub control_sent : Option Order → Answer
control_sent None = answer.Done
control_sent (Some order) = answer.Control order

abbrev pub control_taken : Flat → ℕ → StepResult
control_taken f process = record { answer = control_sent (next_order f process); flat = with_control_taken f process }

-- ## The call

-- the rights of a handle, where it is one of a service
abbrev pub granted_in : Option Opened → Option ℕ
granted_in handle = option_map (λ (of : Opened). of.granted) handle

-- whether a service names the one of this name as a need and isn't STOPPED
abbrev pub is_active_by : List ℕ → Service → Bool
is_active_by name row = list_any (is_for name) row.config.needs && not (row.status.state == SERVICE_STOPPED)

-- how many do so with a service, in 32 bits
abbrev pub active_among : List Service → Option Service → ℕ
active_among rows None = 0
active_among rows (Some target) = min (length (filter (is_active_by target.config.name) rows)) (2 ^ 32 - 1)

-- how many controls wait for a service's process
abbrev pub waiting_for : Flat → Option Service → ℕ
waiting_for f None = 0
waiting_for f (Some row) = length (controls_of f row.process)

abbrev pub control_verdict : Limits → Flat → ℕ → ℕ → ℕ → ℕ
control_verdict l f caller handle control =
    judge (granted_in (opened f caller handle)) control (status_in (held_service f caller handle))
    (active_among f.services (held_service f caller handle)) (waiting_for f (held_service f caller handle)) l.controls

-- whether a refusal with this code returns the service's status
abbrev pub tells_status : ℕ → Bool
tells_status code = code == ERROR_INVALID_SERVICE_CONTROL || code == ERROR_SERVICE_CANNOT_ACCEPT_CTRL || code == ERROR_SERVICE_NOT_ACTIVE

abbrev pub status_told : ℕ → Option Service → Status
status_told code service = if tells_status code then status_in service else zero_status

abbrev pub control_told : Flat → ℕ → ℕ → ℕ → Reply
control_told f caller handle code = reply.State (status_told code (held_service f caller handle)) code

-- the processes with a control more for that of the service that was found
abbrev pub controlled_in : Limits → ℕ → Option Service → List Process → List Process
controlled_in l control = if_found (λ row. map (controlled_if l.controls row.process (order_to row.number control)))

-- the control waits, and the service's status is as it was
abbrev pub control_done : Limits → Flat → ℕ → ℕ → ℕ → CallResult
control_done l f caller handle control = record {
  reply = reply.State (status_in (held_service f caller handle)) 0;
  flat = record f { processes = controlled_in l control (held_service f caller handle) f.processes };
}

abbrev pub control_outcome : Limits → Flat → ℕ → ℕ → ℕ → CallResult
control_outcome l f caller handle control =
    let code = control_verdict l f caller handle control in
    answered code (control_told f caller handle code) f (control_done l f caller handle control)
