-- Which bells a step rings, and that it leaves what is waited for at the others as it is.
use Rattle.std.specs.Prelude.{ℕ, ◌≡◌, ◌<◌, ◌==◌, ◌&&◌, ◌||◌, Bool, true, false, not, List, Option, None, Some, filter, map, option_map}
use Rattle.std.specs.Prelude.{if◌then◌else◌}
use Rattle.std.specs.List.{list_any}
use Rattle.scm_model.specs.declared.codes.TheConstants.{SERVICE_STOPPED}
use Rattle.scm_model.specs.declared.flat.Flat.{Flat}
use Rattle.scm_model.specs.declared.flat.Limits.{Limits}
use Rattle.scm_model.specs.declared.flat.Order.{Order}
use Rattle.scm_model.specs.declared.flat.Process.{Process}
use Rattle.scm_model.specs.declared.flat.Service.{Service}
use Rattle.scm_model.specs.declared.flat.Status.{Status}
use Rattle.scm_model.specs.declared.calls.Request.{Request}
use Rattle.scm_model.specs.declared.calls.Request.TheVariants as request
use Rattle.scm_model.specs.declared.steps.Kept.{Kept}
use Rattle.scm_model.specs.declared.steps.Step.{Step}
use Rattle.scm_model.specs.declared.steps.Step.TheVariants.{Joined, Call, EndStart, LaunchTaken, LaunchFailed, Report, Ended, ControlTaken}
use Rattle.scm_model.specs.declared.steps.Step.TheVariants.{Raised, NoMemory, Tick}
use Rattle.scm_model.specs.Entries.{Entry, with_kept}
use Rattle.scm_model.specs.Processes.{is_shared}
use Rattle.start_plan.specs.Decided.{code_of, is_any_undecided}
use Rattle.scm_rules.specs.Controls.{is_asked_by}
use Rattle.scm_rules.specs.Histories.{state}
use Rattle.scm_rules.specs.Launches.{process_of}
use Rattle.scm_rules.specs.Steps.{step_of, wants_launch}
use Rattle.scm_rules.specs.Valid.{IsValid}
use Rattle.scm_core.specs.Managed.{process_held}
use Rattle.book_rule.specs.declared.view.Opening.{Opening}
use Rattle.scm_book.specs.declared.bells.Children.{Children}
use Rattle.scm_book.specs.declared.bells.Children.TheVariants as children
use Rattle.scm_book.specs.declared.bells.Ring.{Ring}
use Rattle.scm_book.specs.Called.{is_start}
use Rattle.scm_book.specs.Holds.{Runs}

-- the state that a step leaves, settled and purged, whatever became of its change
abbrev pub state_after : Limits → Flat → ℕ → Step → Kept → Flat
state_after l f moment step append = (step_of l f moment (with_kept step append)).flat

-- ## The common bell

-- calls that only read, that open a handle, or that look for a notification
abbrev pub is_quiet : Request → Bool
is_quiet (request.QuerySecurity handle parts size) = true
is_quiet (request.QueryStatus handle) = true
is_quiet (request.EnumDependents handle states size) = true
is_quiet (request.EnumServices handle kinds states size resume) = true
is_quiet (request.OpenManager database access) = true
is_quiet (request.OpenService handle name access) = true
is_quiet (request.QueryConfig handle size) = true
is_quiet (request.QueryLock handle size) = true
is_quiet (request.DisplayName handle name size) = true
is_quiet (request.KeyName handle name size) = true
is_quiet (request.QueryConfig2 handle level size) = true
is_quiet (request.QueryStatusEx handle level size) = true
is_quiet (request.GetNotify handle) = true
is_quiet asked = false

-- all other calls ring it, and so do the steps by which a plan may be decided or a launch wanted: a process is launched, isn't launched,
-- reports or ends, what is due is done, triggers are raised, a caller goes
abbrev pub rings_common : Step → Bool
rings_common (Joined principal) = false
rings_common (Call caller asked append) = not (is_quiet asked)
rings_common (EndStart caller plan) = false
rings_common LaunchTaken = false
rings_common (ControlTaken process) = false
rings_common (NoMemory caller) = false
rings_common step = true

-- who waits at the common bell waits on: a plan that was undecided still is, and no launch is wanted if none was
pub record WaitsOn (before now : Flat) : Type 0 where
  pub plans : (plan : ℕ) → code_of before.plans plan ≡ None → code_of now.plans plan ≡ None
  pub wanted : wants_launch before.wanted ≡ false → wants_launch now.wanted ≡ false

-- what is waited for is as it was: the plans, the wanted launches, and the processes with their controls
pub record IsAwaitedSo (before now : Flat) : Type 0 where
  pub plans : now.plans ≡ before.plans
  pub wanted : now.wanted ≡ before.wanted
  pub processes : now.processes ≡ before.processes

-- the steps that neither ring it nor take anything: a caller joins, a quiet call, and a call that there was no memory for
abbrev pub takes_nothing : Step → Bool
takes_nothing (EndStart caller plan) = false
takes_nothing LaunchTaken = false
takes_nothing (ControlTaken process) = false
takes_nothing step = not (rings_common step)

-- those that wait wait on, and if nothing is taken all that they wait for is as it was
pub record IsUnstirred (step : Step) (before now : Flat) : Type 0 where
  pub waits : WaitsOn before now
  pub awaited : takes_nothing step ≡ true → IsAwaitedSo before now

-- so it is after each legal history
abbrev pub StirsNobody : Step → Type 0
StirsNobody step =
    (o : Opening) (log : List Entry) (moment : ℕ) (append : Kept) → Runs o log
    → IsUnstirred step (state o.limits o.first log) (state_after o.limits (state o.limits o.first log) moment step append)

-- ## The bells of processes

abbrev pub one_or_nobody : Option ℕ → Children
one_or_nobody None = children.Nobody
one_or_nobody (Some process) = children.One process

-- a process that other services may live in too: the orders of a service that is STOPPED leave no other
abbrev pub shared_or_nobody : Flat → Option ℕ → Children
shared_or_nobody f None = children.Nobody
shared_or_nobody f (Some process) = if is_shared (process_of f process) then children.One process else children.Nobody

-- a report by which its service is STOPPED may take orders away; another takes none
abbrev pub if_stopped : Status → Children → Children
if_stopped status rung = if status.state == SERVICE_STOPPED then rung else children.Nobody

-- of calls only a control rings one, that of the service's process, and a report that stops a service, where it is shared
abbrev pub controls_rung : Flat → ℕ → Request → Children
controls_rung f caller (request.Control handle control) = one_or_nobody (process_held f caller handle)
controls_rung f caller (request.SetStatus handle status) = if_stopped status (shared_or_nobody f (process_held f caller handle))
controls_rung f caller asked = children.Nobody

-- the processes whose bells the effect of a step rings in a state
abbrev pub effect_rung : Flat → Step → Children
effect_rung f (Call caller asked append) = controls_rung f caller asked
effect_rung f (LaunchFailed process code) = children.One process
effect_rung f (Report process service status) = if_stopped status (shared_or_nobody f (Some process))
effect_rung f (Ended process) = children.One process
effect_rung f (ControlTaken process) = children.One process
effect_rung f (Raised caller subtype) = children.All
effect_rung f step = children.Nobody

-- the steps by which plans may begin
abbrev pub begins_plans : Step → Bool
begins_plans (Call caller asked append) = is_start asked
begins_plans Tick = true
begins_plans (Raised caller subtype) = true
begins_plans step = false

-- whether a step may ask a service to start in a process that is listed: one is shared, and a plan is undecided or may begin
abbrev pub may_host : Flat → Step → Bool
may_host f step = list_any (λ (row : Process). row.shared) f.processes && (begins_plans step || is_any_undecided f.plans)

-- the processes whose bells a step rings in a state: all, if it may ask a service to start in one of them, and else those of its effect
abbrev pub children_rung : Flat → Step → Children
children_rung f step = if rings_common step && may_host f step then children.All else effect_rung f step

abbrev pub is_rung : Children → ℕ → Bool
is_rung children.Nobody process = false
is_rung (children.One one) process = process == one
is_rung children.All process = true

-- the controls that wait for a process, if it is listed
abbrev pub controls_listed : Flat → ℕ → Option (List Order)
controls_listed f process = option_map (λ (row : Process). row.controls) (process_of f process)

-- a process that isn't rung, of those whose numbers were given, is listed after the step if it was, with the controls that it had
abbrev pub StirsNoOther : Flat → Step → Children → Type 0
StirsNoOther f step rung =
    (l : Limits) (moment : ℕ) (append : Kept) (process : ℕ) → process < f.next.process → is_rung rung process ≡ false
    → controls_listed (state_after l f moment step append) process ≡ controls_listed f process

-- the services that a process is still to be sent to start, in order
abbrev pub asked_of : Flat → ℕ → List ℕ
asked_of f process = map (λ (row : Service). row.number) (filter (is_asked_by process) f.services)

-- from a valid state on, such a process is also to be sent the services that it was
abbrev pub AsksNoOther : Flat → Step → Children → Type 0
AsksNoOther f step rung =
    (l : Limits) (moment : ℕ) (append : Kept) (process : ℕ) → IsValid l f → process < f.next.process → is_rung rung process ≡ false
    → asked_of (state_after l f moment step append) process ≡ asked_of f process

-- ## Both

abbrev pub ring_of : Flat → Step → Ring
ring_of f step = record { common = rings_common step; children = children_rung f step }
