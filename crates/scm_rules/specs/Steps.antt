-- One step of the manager: its effect, then the plans are settled, then a start that this decided is answered, then marked services
-- are purged.
use Rattle.std.specs.Prelude.{ℕ, Bool, true, false, not, ◌&&◌, ◌==◌, nat_lt, length, max, List, [], ◌∷◌, Option, None, Some, is_some}
use Rattle.std.specs.Prelude.{unwrap_or, if◌then◌else◌}
use Rattle.std.specs.List.{list_any}
use Rattle.scm_model.specs.declared.flat.Flat.{Flat}
use Rattle.scm_model.specs.declared.flat.Limits.{Limits}
use Rattle.scm_model.specs.declared.flat.Wanted.{Wanted}
use Rattle.scm_model.specs.declared.calls.Reply.{Reply}
use Rattle.scm_model.specs.declared.calls.Reply.TheVariants as reply
use Rattle.scm_model.specs.declared.calls.Request.{Request}
use Rattle.scm_model.specs.declared.calls.Request.TheVariants as request
use Rattle.scm_model.specs.declared.steps.Step.{Step}
use Rattle.scm_model.specs.declared.steps.Step.TheVariants.{Joined, Call, EndStart, LaunchTaken, Launched, LaunchFailed, Report, Ended}
use Rattle.scm_model.specs.declared.steps.Step.TheVariants.{ControlTaken, Tick, Raised, Gone, NoMemory}
use Rattle.scm_model.specs.declared.steps.Answer.{Answer}
use Rattle.scm_model.specs.declared.steps.Answer.TheVariants as answer
use Rattle.scm_model.specs.Rows.{is_caller}
use Rattle.scm_model.specs.Changes.{with_moment, with_caller, without_caller, without_handles_of, without_lock_of, without_registrations_of}
use Rattle.scm_model.specs.Purge.{purged}
use Rattle.scm_model.specs.Outcomes.{StepResult}
use Rattle.scm_model.specs.Ranges.{in_range}
use Rattle.start_plan.specs.Decided.{code_of, without_plans_of}
use Rattle.start_plan.specs.Settle.{settled}
use Rattle.scm_rules.specs.Controls.{control_taken, next_order}
use Rattle.scm_rules.specs.Launches.{is_launched, is_taken, launch_failed, launch_taken, launched, process_of}
use Rattle.scm_rules.specs.Reports.{reported}
use Rattle.scm_rules.specs.Ends.{process_ended}
use Rattle.scm_rules.specs.Due.{is_due}
use Rattle.scm_rules.specs.Ticks.{ticked}
use Rattle.scm_rules.specs.Raise.{raise_verdict, raised}
use Rattle.scm_rules.specs.Start.{can_end, ended}
use Rattle.scm_rules.specs.Verdicts.{call_of, change_of_call, tells_right, verdict}

-- a caller's plans leave
abbrev pub without_plans : Flat → ℕ → Flat
without_plans f caller = record f { plans = without_plans_of f.plans caller }

-- what a caller leaves when it goes: its handles, registrations and plans leave too, and a lock that one of its handles held is free
abbrev pub gone : Flat → ℕ → Flat
gone f caller = without_caller (without_plans (without_registrations_of (without_handles_of (without_lock_of f caller) caller) caller)
    caller) caller

-- a start that isn't refused tells its plan, and every other call its reply
abbrev pub tells_plan : Request → ℕ → Bool
tells_plan (request.Start handle words) code = code == 0
tells_plan asked code = false

abbrev pub call_answer : Bool → ℕ → Reply → Answer
call_answer begins plan told = if begins then answer.Begun plan else answer.Reply told

-- the state that a step's effect begins in: a call that found no memory moves nothing
abbrev pub at_moment : Flat → ℕ → Step → Flat
at_moment f moment (NoMemory caller) = f
at_moment f moment step = with_moment f moment

abbrev pub effect_of : Limits → Flat → Step → StepResult
effect_of l f (Joined principal) = record { answer = answer.Caller f.next.caller; flat = with_caller f principal }
effect_of l f (Call caller asked append) =
    let done = call_of l f caller asked append in
    record { answer = call_answer (tells_plan asked (verdict l f caller asked append)) f.next.plan done.reply; flat = done.flat }
effect_of l f (EndStart caller plan) = record {
  answer = answer.Reply (reply.Code (unwrap_or (code_of f.plans plan) 0));
  flat = ended f plan;
}
effect_of l f LaunchTaken = launch_taken f
effect_of l f (Launched process pid) = record { answer = answer.Done; flat = launched f process pid }
effect_of l f (LaunchFailed process code) = record { answer = answer.Done; flat = launch_failed f process code }
effect_of l f (Report process service status) = reported f process service status
effect_of l f (Ended process) = process_ended f process
effect_of l f (ControlTaken process) = control_taken f process
effect_of l f Tick = record { answer = answer.Done; flat = ticked l f }
effect_of l f (Raised caller subtype) = record {
  answer = answer.Reply (reply.Code (raise_verdict f caller));
  flat = raised l f caller subtype;
}
effect_of l f (Gone caller) = record { answer = answer.Done; flat = gone f caller }
effect_of l f (NoMemory caller) = record { answer = answer.Done; flat = f }

-- a start that is decided by now is answered its code, and its plan leaves
abbrev pub answered_by : ℕ → Option ℕ → Answer
answered_by plan None = answer.Begun plan
answered_by plan (Some code) = answer.Reply (reply.Code code)

abbrev pub left_by : Flat → ℕ → Option ℕ → Flat
left_by f plan None = f
left_by f plan (Some code) = ended f plan

abbrev pub finished : Flat → Answer → StepResult
finished f (answer.Begun plan) = record { answer = answered_by plan (code_of f.plans plan); flat = left_by f plan (code_of f.plans plan) }
finished f told = record { answer = told; flat = f }

-- what a step answers, and the state before marked services leave
abbrev pub finished_step : Limits → Flat → ℕ → Step → StepResult
finished_step l f moment step =
    let done = effect_of l (at_moment f moment step) step in
    finished (settled l done.flat) done.answer

-- what a step answers, and the state after it
abbrev pub step_of : Limits → Flat → ℕ → Step → StepResult
step_of l f moment step =
    let done = finished_step l f moment step in
    record { answer = done.answer; flat = purged done.flat }

-- the states that a step passes through: after its effect, then settled, then without the services that leave
pub record Stages : Type 0 where
  pub effect : Flat
  pub settled : Flat
  pub purged : Flat

abbrev pub stages_of : Limits → Flat → ℕ → Step → Stages
stages_of l f moment step = record {
  effect = (effect_of l (at_moment f moment step) step).flat;
  settled = (finished_step l f moment step).flat;
  purged = (step_of l f moment step).flat;
}

-- whether a launch is wanted
abbrev pub wants_launch : List Wanted → Bool
wants_launch [] = false
wants_launch (row ∷ rows) = true

-- whether a step may come at a moment, whatever it tells of what was kept
abbrev pub may_come : Limits → Flat → ℕ → Step → Bool
may_come l f moment (Joined principal) = nat_lt (length f.callers) l.callers
may_come l f moment (Call caller asked append) = is_caller f caller && in_range asked
may_come l f moment (EndStart caller plan) = is_caller f caller && can_end f caller plan
may_come l f moment LaunchTaken = wants_launch f.wanted
may_come l f moment (Launched process pid) = is_taken (process_of f process)
may_come l f moment (LaunchFailed process code) = is_taken (process_of f process) && not (code == 0)
may_come l f moment (Report process service status) = is_launched (process_of f process)
may_come l f moment (Ended process) = is_launched (process_of f process)
may_come l f moment (ControlTaken process) = is_some (next_order f process)
may_come l f moment Tick = list_any (is_due (max f.moment moment)) f.dues
may_come l f moment (Raised caller subtype) = is_caller f caller
may_come l f moment (Gone caller) = is_caller f caller
may_come l f moment (NoMemory caller) = is_caller f caller

-- whether a step tells that a change was kept or not exactly where it makes one
abbrev pub keeps_right : Limits → Flat → Step → Bool
keeps_right l f (Call caller asked append) = tells_right (is_some (change_of_call l f caller asked)) append
keeps_right l f step = true

-- whether a step may be done, apart from its room and from the number and text of the steps
abbrev pub may : Limits → Flat → ℕ → Step → Bool
may l f moment step = may_come l f moment step && keeps_right l f step
