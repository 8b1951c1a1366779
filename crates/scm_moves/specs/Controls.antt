-- Which controls services get, and which wait for their processes.
use Rattle.std.specs.Prelude.{ℕ, Bool, ◌≡◌, ◌↔◌, ◌≤◌, ◌⊎◌, true, false, not, ◌&&◌, ◌||◌, ◌==◌, ◌++◌, All, List, [], ◌∷◌, Option, None}
use Rattle.std.specs.Prelude.{Some, filter, is_some, if◌then◌else◌}
use Rattle.std.specs.List.{list_any}
use Rattle.scm_model.specs.declared.flat.Flat.{Flat}
use Rattle.scm_model.specs.declared.flat.Limits.{Limits}
use Rattle.scm_model.specs.declared.flat.Order.{Order}
use Rattle.scm_model.specs.declared.flat.Process.{Process}
use Rattle.scm_model.specs.declared.flat.Service.{Service}
use Rattle.scm_model.specs.declared.flat.Status.{Status}
use Rattle.scm_model.specs.declared.calls.Reply.TheVariants as reply
use Rattle.scm_model.specs.declared.calls.Request.TheVariants as request
use Rattle.scm_model.specs.declared.steps.Answer.{Answer}
use Rattle.scm_model.specs.declared.steps.Answer.TheVariants as answer
use Rattle.scm_model.specs.declared.steps.Step.{Step}
use Rattle.scm_model.specs.declared.steps.Step.TheVariants.{Call, ControlTaken, Raised, Report}
use Rattle.scm_model.specs.Refused.{zero_status}
use Rattle.scm_model.specs.Rows.{held_service, opened}
use Rattle.control_dispatch.specs.Judging.{judge}
use Rattle.dependency_index.specs.Naming.{is_for}
use Rattle.start_triggers.specs.Triggers.{matching}
use Rattle.scm_rules.specs.Controls.{control_verdict, controls_of, first_asked, granted_in, order_to}
use Rattle.scm_rules.specs.Launches.{process_of}
use Rattle.scm_rules.specs.Query.{status_in}
use Rattle.scm_rules.specs.Reports.{is_stopped_by, reporting}
use Rattle.scm_model.specs.Entries.{Entry}
use Rattle.scm_model.specs.declared.codes.TheConstants.{ERROR_DEPENDENT_SERVICES_RUNNING, ERROR_INVALID_SERVICE_CONTROL}
use Rattle.scm_model.specs.declared.codes.TheConstants.{ERROR_SERVICE_CANNOT_ACCEPT_CTRL, ERROR_SERVICE_NOT_ACTIVE, SERVICE_CONTROL_STOP}
use Rattle.scm_model.specs.declared.codes.TheConstants.{SERVICE_STOPPED, SERVICE_TRIGGER_ACTION_SERVICE_START}
use Rattle.scm_moves.specs.Moves.{code_of_end}

-- ## What a Control returns

-- the status is returned if the service gets the control, doesn't accept it (1052), can't get it now (1061) or is STOPPED (1062), and else
-- zeros
abbrev pub shows : ℕ → Bool
shows code = code == 0 || code == ERROR_INVALID_SERVICE_CONTROL || code == ERROR_SERVICE_CANNOT_ACCEPT_CTRL
    || code == ERROR_SERVICE_NOT_ACTIVE

abbrev pub status_shown : ℕ → Option Service → Status
status_shown code service = if shows code then status_in service else zero_status

-- ## Who needs a service that is to stop

-- whether a service names one of this name as a need, and isn't STOPPED
abbrev pub is_active_with : List ℕ → Service → Bool
is_active_with name row = list_any (is_for name) row.config.needs && not (row.status.state == SERVICE_STOPPED)

-- whether a service that isn't STOPPED names this one as a need
abbrev pub is_needed_by_active : Flat → Option Service → Bool
is_needed_by_active f None = false
is_needed_by_active f (Some target) = list_any (is_active_with target.config.name) f.services

-- a STOP that would be taken if nobody needed the service and nothing waited, of a service that somebody needs
pub record IsNeededStill (f : Flat) (caller handle control : ℕ) : Type 0 where
  pub stop : control ≡ SERVICE_CONTROL_STOP
  pub taken : judge (granted_in (opened f caller handle)) control (status_in (held_service f caller handle)) 0 0 1 ≡ 0
  pub needed : is_needed_by_active f (held_service f caller handle) ≡ true

-- ## The controls that wait

-- each process has the controls that it had
abbrev pub AllWaitAsBefore : Flat → Flat → Type 0
AllWaitAsBefore before after = (number : ℕ) → controls_of after number ≡ controls_of before number

-- one order more waits for a process, after those that waited, and for every other process what waited before
pub record OneMoreWaits (before after : Flat) (process : ℕ) (order : Order) : Type 0 where
  pub there : 1 ≤ process
  pub waits : controls_of after process ≡ controls_of before process ++ order ∷ []
  pub others : (number : ℕ) → (process == number) ≡ false → controls_of after number ≡ controls_of before number

-- a control more for a service that was found waits for its process
abbrev pub OneMoreWaitsFor : Flat → Flat → Option Service → ℕ → Type 0
OneMoreWaitsFor before after None control = ⊥
OneMoreWaitsFor before after (Some row) control = OneMoreWaits before after row.process (order_to row.number control)

-- ## A Control, a raise, and a control that is taken

-- a Control returns its verdict in the state before, whatever the moment, and moves no service; if the verdict is 0 the control then waits
-- for the service's process, and else nothing more does; a STOP is refused with 1051 exactly if the service is still needed
pub record IsControlled (l : Limits) (before : Flat) (caller handle control : ℕ) (told : Answer) (after : Flat) : Type 0 where
  pub code : ℕ
  pub verdict : code ≡ control_verdict l before caller handle control
  pub answers : told ≡ answer.Reply (reply.State (status_shown code (held_service before caller handle)) code)
  pub taken : code ≡ 0 → OneMoreWaitsFor before after (held_service before caller handle) control
  pub refused : (code == 0) ≡ false → AllWaitAsBefore before after
  pub services : after.services ≡ before.services
  pub needed : (code ≡ ERROR_DEPENDENT_SERVICES_RUNNING) ↔ IsNeededStill before caller handle control

-- the answer is the first service that is asked to start, with code 0, which no longer is; what waits stays
pub record AskedIsTaken (before : Flat) (process : ℕ) (told : Answer) (after : Flat) : Type 0 where
  pub row : Service
  pub first : first_asked before process ≡ Some row
  pub answers : told ≡ answer.Control (record { service = row.number; code = 0 })
  pub unasked : All (λ (new : Service). new.number ≡ row.number → new.asked ≡ false) after.services
  pub waits : controls_of after process ≡ controls_of before process

-- none is asked to start, and the answer is the order that waited first, which no longer waits
pub record FirstIsTaken (before : Flat) (process : ℕ) (told : Answer) (after : Flat) : Type 0 where
  pub none : first_asked before process ≡ None
  pub order : Order
  pub answers : told ≡ answer.Control order
  pub first : controls_of before process ≡ order ∷ controls_of after process

-- what is sent to a process next
abbrev pub IsSent : Flat → ℕ → Answer → Flat → Type 0
IsSent before process told after = AskedIsTaken before process told after ⊎ FirstIsTaken before process told after

-- the orders of a process without those of a service, where others may live there too
abbrev pub orders_without : ℕ → Option Process → List Order
orders_without service None = []
orders_without service (Some row) = if row.shared then filter (λ (order : Order). not (order.service == service)) row.controls
    else row.controls

-- a report that stops the service that was found takes its orders from its process, where that is shared
abbrev pub IsReleased : Flat → Flat → Status → Option Service → Type 0
IsReleased before after report None = Unit {0}
IsReleased before after report (Some row) = is_stopped_by report row ≡ true
    → controls_of after row.process ≡ orders_without row.number (process_of before row.process)

-- only STOPs are added for this process, after what waited
pub record IsStopped (before after : Flat) (number : ℕ) : Type 0 where
  pub orders : List Order
  pub only : All (λ (order : Order). order.code ≡ SERVICE_CONTROL_STOP) orders
  pub appended : controls_of after number ≡ controls_of before number ++ orders

abbrev pub OfControls : Limits → Flat → Step → Answer → Flat → Type 0
OfControls l before (Call caller (request.Control handle control) append) told after =
    IsControlled l before caller handle control told after
OfControls l before (Call caller (request.SetStatus handle status) append) told after =
    told ≡ answer.Reply (reply.Code 0) → IsReleased before after status (held_service before caller handle)
OfControls l before (ControlTaken process) told after = IsSent before process told after
OfControls l before (Report process service status) told after = IsReleased before after status (reporting before process service)
OfControls l before (Raised caller subtype) told after = (number : ℕ) → IsStopped before after number
OfControls l before step told after = Unit {0}

-- ## The law

-- whether a step is the end of this process
abbrev pub ends_process : Step → ℕ → Bool
ends_process step process = is_some (code_of_end step process)

-- whether an action is not to start a service
abbrev pub stops : Option ℕ → Bool
stops None = false
stops (Some action) = not (action == SERVICE_TRIGGER_ACTION_SERVICE_START)

-- whether a trigger of a service stops it
abbrev pub is_stopped_at : List ℕ → Service → Bool
is_stopped_at subtype row = stops (matching row.config subtype)

-- whether a service that was found has the process
abbrev pub is_process_of : Option Service → ℕ → Bool
is_process_of None process = false
is_process_of (Some row) process = process == row.process

-- whether a report stops the service that was found, and this is its process
abbrev pub is_left_by : Status → Option Service → ℕ → Bool
is_left_by report None process = false
is_left_by report (Some row) process = is_stopped_by report row && process == row.process

-- whether a step may change what waits for this process
abbrev pub changes_controls : Flat → Step → ℕ → Bool
changes_controls f (Call caller (request.Control handle control) append) number = is_process_of (held_service f caller handle) number
changes_controls f (Call caller (request.SetStatus handle status) append) number = is_left_by status (held_service f caller handle) number
changes_controls f (ControlTaken process) number = process == number
changes_controls f (Report process service status) number = is_left_by status (reporting f process service) number
changes_controls f (Raised caller subtype) number = list_any (λ (row : Service). row.process == number
    && is_stopped_at subtype row) f.services
changes_controls f step number = ends_process step number

-- a Control puts a control after those that wait, a raise STOPs, and they are taken from the front once no service is asked to start; a
-- report that stops a service takes its orders away from a process that is shared; a process that ends has none, nor has one that is new;
-- and no other step changes what waits
pub record LawOfControls (l : Limits) (before : Flat) (e : Entry) (told : Answer) (after : Flat) : Type 0 where
  pub controls : OfControls l before e.1 told after
  pub ended : (number : ℕ) → ends_process e.1 number ≡ true → controls_of after number ≡ []
  pub fresh : (number : ℕ) → before.next.process ≤ number → controls_of after number ≡ []
  pub others : (number : ℕ) → changes_controls before e.1 number ≡ false → controls_of after number ≡ controls_of before number
