-- The outcomes of reports, controls and ticks.
use Rattle.std.specs.Prelude.{ℕ, ◌≡◌, ◌==◌, ◌⊎◌, Bool, true, false, max, List, [], Option, None, Some, Result, Ok, Err, Box, is_some}
use Rattle.std.specs.Prelude.{option_map, unwrap_or, if◌then◌else◌}
use Rattle.std.specs.List.{list_any}
use Rattle.std.specs.declared.alloc.Global.{Global}
use Rattle.atomic_table.specs.declared.badge.Badge.{Badge}
use Rattle.atomic_table.specs.declared.shared.Seat.{Seat}
use Rattle.scm_text.specs.TextWithRoom.{TextWithRoom}
use Rattle.scm_model.specs.declared.codes.TheConstants.{ERROR_INVALID_DATA}
use Rattle.scm_model.specs.declared.flat.Flat.{Flat}
use Rattle.scm_model.specs.declared.flat.Order.{Order}
use Rattle.scm_model.specs.declared.flat.Service.{Service}
use Rattle.scm_model.specs.declared.flat.Status.{Status}
use Rattle.scm_model.specs.declared.steps.Answer.{Answer}
use Rattle.scm_model.specs.declared.steps.Answer.TheVariants as answers
use Rattle.scm_model.specs.declared.steps.Step.TheVariants.{ControlTaken, Report, Tick}
use Rattle.scm_model.specs.Entries.{Entry}
use Rattle.scm_model.specs.Processes.{is_shared, process_of}
use Rattle.scm_model.specs.Rows.{service_of}
use Rattle.scm_rules.specs.Controls.{next_order, waiting}
use Rattle.scm_rules.specs.Due.{is_due}
use Rattle.scm_rules.specs.Histories.{state}
use Rattle.scm_rules.specs.Reports.{reporting}
use Rattle.book_rule.specs.declared.view.Opening.{Opening}
use Rattle.book_rule.specs.declared.view.View.{View}
use Rattle.book_rule.specs.Seats.{Identity}
use Rattle.scm_book.specs.Ghosts.{Ghosts}
use Rattle.scm_book.specs.declared.controlling.ControlLook.{ControlLook}
use Rattle.scm_book.specs.declared.controlling.ControlLook.TheVariants as controls
use Rattle.scm_book.specs.declared.controlling.ControlRoom.{ControlRoom}
use Rattle.scm_book.specs.declared.controlling.HandedOrder.{HandedOrder}
use Rattle.scm_book.specs.declared.controlling.Looked.{Looked}
use Rattle.scm_book.specs.declared.fault.StepFault.{StepFault}
use Rattle.scm_book.specs.declared.fault.StepFault.TheVariants as faults
use Rattle.scm_book.specs.declared.held.Held.{Held}
use Rattle.scm_book.specs.declared.processes.ReportEnd.{ReportEnd}
use Rattle.scm_book.specs.declared.processes.ReportEnd.TheVariants as reports
use Rattle.scm_book.specs.declared.processes.TickEnd.{TickEnd}
use Rattle.scm_book.specs.declared.processes.TickEnd.TheVariants as ticks
use Rattle.scm_book.specs.Passes.{FindsFault, Known, Learnt, MadeSo, may_behind}
use Rattle.scm_book.specs.Steps.{Makes}
use Rattle.scm_book.specs.Turns.{DidSoBy, LeftIt, StepCause, of_badge}

-- ## report

-- whether a report of a process names a service whose current process it is, after a history
abbrev pub is_reporting_behind : Opening → List Entry → ℕ → ℕ → Bool
is_reporting_behind o log process service = is_some (reporting (state o.limits o.first log) process service)

-- the move of the service that is named was taken or refused; or the process is the current one of no such service
abbrev pub ReportEnds : Opening → Known → ℕ → ℕ → ℕ → Status → ReportEnd → Known → Type 0
ReportEnds o k moment process service status reports.Taken k' =
    (so : MadeSo o k moment (Report process service status) answers.Done k')
    × (is_reporting_behind o so.made.before process service ≡ true)
ReportEnds o k moment process service status (reports.Refused code) k' =
    (so : MadeSo o k moment (Report process service status) (answers.Refused code) k')
    × (is_reporting_behind o so.made.before process service ≡ true) × (code ≡ ERROR_INVALID_DATA)
ReportEnds o k moment process service status reports.Stale k' =
    (so : MadeSo o k moment (Report process service status) answers.Stale k')
    × (is_reporting_behind o so.made.before process service ≡ false)
ReportEnds o k moment process service status (reports.Unmade fault) k' = FindsFault o k (Report process service status) fault k'

-- the answer to a report that may come is that it was taken, refused or stale
abbrev pub IsReport : Result Answer StepFault → Type 0
IsReport (Ok told) = (told ≡ answers.Done) ⊎ (told ≡ answers.Refused ERROR_INVALID_DATA) ⊎ (told ≡ answers.Stale)
IsReport (Err faults.NotNow) = ⊥
IsReport (Err fault) = Unit {0}

abbrev pub told_of_report : ReportEnd → Result Answer StepFault
told_of_report reports.Taken = Ok answers.Done
told_of_report (reports.Refused code) = Ok (answers.Refused code)
told_of_report reports.Stale = Ok answers.Stale
told_of_report (reports.Unmade fault) = Err (faults.Unmade fault)

-- ## take_control

-- how many services and orders a process is still to be told of after a history, if it is listed
abbrev pub waiting_behind : Opening → List Entry → ℕ → Option ℕ
waiting_behind o log process = waiting (state o.limits o.first log) process

-- the name of a service that was found, or the empty one
abbrev pub name_in : Option Service → List ℕ
name_in found = unwrap_or (option_map (λ (row : Service). row.config.name) found) []

-- with code 0 the name of the service that is to start takes the place of the text in the room for it
abbrev pub with_name_for : Order → List ℕ → TextWithRoom → TextWithRoom
with_name_for order name room = record { units = if order.code == 0 then name else room.units; room = room.room }

-- What is handed over is what is sent to a process next in a state; whether the process is shared there, and the name that a service which
-- is to start has there, come with it.
pub record HandsOver (f : Flat) (process : ℕ) (text text' : TextWithRoom) (handed : HandedOrder) : Type 0 where
  pub order : next_order f process ≡ Some handed.order
  pub shared : handed.shared ≡ is_shared (process_of f process)
  pub name : text' ≡ with_name_for handed.order (name_in (service_of f handed.order.service)) text

module _ {K : Type 0} (ghosts : Ghosts K) where
  -- the order that is sent next was taken and handed over
  abbrev pub HoldsControl : Held K → Held K → ℕ → ℕ → TextWithRoom → TextWithRoom → HandedOrder → Type 0
  HoldsControl h h' moment process name name' handed =
      Makes ghosts h h' moment (ControlTaken process) (answers.Control handed.order)
      × HandsOver h.manager.flat process name name' handed

  -- so it is with a seat that had the turn, and has given it up
  module _ (b : Identity) (s s' : Seat (Option (Box (Held K) Global)) View) where
    abbrev pub DidHand : ℕ → ℕ → TextWithRoom → TextWithRoom → HandedOrder → Type 0
    DidHand moment process name name' handed =
        DidSoBy ghosts b s s' moment (ControlTaken process) (answers.Control handed.order)
        × HandsOver (state b.opening.limits b.opening.first s.me.0.seen) process name name' handed

    -- or no step was made, and the room for a name is as it was
    abbrev pub DidControl : ℕ → ℕ → TextWithRoom → TextWithRoom → Result HandedOrder StepFault → Type 0
    DidControl moment process name name' (Ok handed) = DidHand moment process name name' handed
    DidControl moment process name name' (Err fault) =
        LeftIt s s' × StepCause b.opening s.me.0.seen moment (ControlTaken process) fault × (name' ≡ name)

-- the pass took the order that was sent to the process next, and it was handed over as the state before has it
pub record TakesOrder (o : Opening) (k : Known) (moment process : ℕ) (name name' : TextWithRoom) (handed : HandedOrder)
    (k' : Known) : Type 0 where
  pub so : MadeSo o k moment (ControlTaken process) (answers.Control handed.order) k'
  pub hands : HandsOver (state o.limits o.first so.made.before) process name name' handed

-- so it is with a pass; or no step was made
abbrev pub OrderEnds : Opening → Known → ℕ → ℕ → TextWithRoom → TextWithRoom → Result HandedOrder StepFault → Known → Type 0
OrderEnds o k moment process name name' (Ok handed) k' = TakesOrder o k moment process name name' handed k'
OrderEnds o k moment process name name' (Err fault) k' =
    Learnt o k k' × StepCause o k'.seen moment (ControlTaken process) fault × (name' ≡ name)

-- what was sent next was taken; or nothing is sent to the process, or it isn't listed, in the state of the new history; or no step was made
-- though something is sent there
abbrev pub ControlEnds : Opening → Known → ℕ → ℕ → ControlRoom → ControlRoom → ControlLook → Known → Type 0
ControlEnds o k moment process room room' (controls.Control order shared) k' =
    TakesOrder o k moment process room.name room'.name (record { order = order; shared = shared }) k'
ControlEnds o k moment process room room' controls.Empty k' =
    Learnt o k k' × (waiting_behind o k'.seen process ≡ Some 0) × (room' ≡ room)
ControlEnds o k moment process room room' controls.Over k' =
    Learnt o k k' × (waiting_behind o k'.seen process ≡ None) × (room' ≡ room)
ControlEnds o k moment process room room' (controls.Unmade fault) k' = FindsFault o k (ControlTaken process) fault k'
    × (may_behind o k'.seen moment (ControlTaken process) ≡ true) × (room' ≡ room)

-- within the turn: the outcome of the step, and, if it may not come, how many services and orders the process is still to be told of
pub record LooksFor (o : Opening) (k : Known) (moment process : ℕ) (name name' : TextWithRoom) (k' : Known) (looked : Looked) : Type 0 where
  pub ends : OrderEnds o k moment process name name' looked.ended k'
  pub waiting : looked.ended ≡ Err faults.NotNow → looked.waiting ≡ waiting_behind o k'.seen process

abbrev pub LooksForBy : Opening → Badge View → ℕ → ℕ → TextWithRoom → TextWithRoom → Badge View → Looked → Type 0
LooksForBy o badge moment process name name' badge' looked = LooksFor o (of_badge badge) moment process name name' (of_badge badge') looked

-- where the step may not come, either nothing is sent to the process or it isn't listed
abbrev pub look_of : Result HandedOrder StepFault → Option ℕ → ControlLook
look_of (Ok handed) waiting = controls.Control handed.order handed.shared
look_of (Err faults.NotNow) None = controls.Over
look_of (Err faults.NotNow) (Some number) = controls.Empty
look_of (Err (faults.Unmade fault)) waiting = controls.Unmade fault

-- ## tick

-- whether something is due after a history, at a moment that may be earlier than its last one
abbrev pub is_any_due_behind : Opening → List Entry → ℕ → Bool
is_any_due_behind o log moment = list_any (is_due (max (state o.limits o.first log).moment moment)) (state o.limits o.first log).dues

-- what is due was done; or nothing is due in the state of the new history; or no step was made though something is due there
abbrev pub TickEnds : Opening → Known → ℕ → TickEnd → Known → Type 0
TickEnds o k moment ticks.Ticked k' = MadeSo o k moment Tick answers.Done k'
TickEnds o k moment ticks.Idle k' = Learnt o k k' × (is_any_due_behind o k'.seen moment ≡ false)
TickEnds o k moment (ticks.Unmade fault) k' = FindsFault o k Tick fault k' × (is_any_due_behind o k'.seen moment ≡ true)

-- the answer to a tick is that it was done
abbrev pub IsTick : Result Answer StepFault → Type 0
IsTick (Ok told) = told ≡ answers.Done
IsTick (Err fault) = Unit {0}

abbrev pub told_of_tick : TickEnd → Result Answer StepFault
told_of_tick ticks.Ticked = Ok answers.Done
told_of_tick ticks.Idle = Err faults.NotNow
told_of_tick (ticks.Unmade fault) = Err (faults.Unmade fault)
