-- A step leaves the controls of each process whose bell it doesn't ring, and lists it as it was.
use Rattle.std.proofs.Common.{ℕ, ◌≡◌, ◌∙◌, ◌<◌, ◌==◌, ◌&&◌, Bool, true, false, not, cond, List, Option, None, Some, find, filter, map, ap}
use Rattle.std.proofs.Common.{refl, subst, sym, eqb-true}
use Rattle.std.proofs.lemmas.Bool.{and_parts, and_right}
use Rattle.std.specs.Prelude.{option_map}
use Rattle.scm_model.specs.declared.calls.Request.{Request}
use Rattle.scm_model.specs.declared.calls.Request.TheVariants as request
use Rattle.scm_model.specs.declared.codes.TheConstants.{ERROR_PROCESS_ABORTED, SERVICE_STOPPED}
use Rattle.scm_model.specs.declared.flat.Flat.{Flat}
use Rattle.scm_model.specs.declared.flat.Limits.{Limits}
use Rattle.scm_model.specs.declared.flat.Order.{Order}
use Rattle.scm_model.specs.declared.flat.Phase.TheVariants as phases
use Rattle.scm_model.specs.declared.flat.Process.{Process}
use Rattle.scm_model.specs.declared.flat.Service.{Service}
use Rattle.scm_model.specs.declared.flat.Status.{Status}
use Rattle.scm_model.specs.Found.{if_found}
use Rattle.scm_model.specs.declared.steps.Kept.{Kept}
use Rattle.scm_model.specs.declared.steps.Step.{Step}
use Rattle.scm_model.specs.declared.steps.Step.TheVariants.{Call, LaunchTaken, Launched, LaunchFailed, Report, Ended, ControlTaken, Tick}
use Rattle.scm_model.specs.declared.steps.Step.TheVariants.{Raised}
use Rattle.scm_model.specs.Changes.{with_moment}
use Rattle.scm_model.specs.Entries.{with_kept}
use Rattle.scm_model.specs.Processes.{is_shared}
use Rattle.scm_model.specs.Rows.{held_service}
use Rattle.scm_model.proofs.Found.{found_keeps}
use Rattle.scm_rules.specs.Controls.{controlled_if, controlled_in, dequeued_if, dequeued_in, first_asked, order_to}
use Rattle.scm_rules.specs.Failures.{failed_by}
use Rattle.scm_rules.specs.Launches.{currents, first_wanted, launched_if, process_of, taken_if, with_fallen, without_process}
use Rattle.scm_rules.specs.Reports.{is_stopped_by, released_by, released_if, reporting}
use Rattle.scm_rules.specs.Steps.{at_moment, effect_of}
use Rattle.scm_rules.specs.Verdicts.{call_of, done_of, told_refused, verdict}
use Rattle.scm_runs.proofs.Calls.{by_verdict}
use Rattle.scm_runs.proofs.Failing.{all_failing_apart, failing_apart}
use Rattle.scm_runs.proofs.Founds.{notify_apart, opened_keeps, started_keeps}
use Rattle.scm_runs.proofs.Lists.{find_filter}
use Rattle.scm_runs.proofs.Rows.{by_parts}
use Rattle.scm_runs.proofs.Sound.{controls_fewer, controls_more, controls_released, reporting_by}
use Rattle.scm_history.proofs.Finds.{found_map}
use Rattle.scm_history.proofs.Processes.{IsOf, after_effect, apart, has, launches, others_changed, takes, ticked_still}
use Rattle.scm_book.specs.declared.bells.Children.{Children}
use Rattle.scm_book.specs.declared.bells.Children.TheVariants as children
use Rattle.scm_book.specs.Ringing.{StirsNoOther, children_rung, controls_rung, effect_rung, if_stopped, is_rung, may_host, one_or_nobody}
use Rattle.scm_book.specs.Ringing.{rings_common, shared_or_nobody}

-- the controls of a process, if it is among these
abbrev listed : ℕ → List Process → Option (List Order)
listed number rows = option_map (λ (row : Process). row.controls) (find (has number) rows)

-- ## Changes of processes

found_same : (change : Process → Process) → ((row : Process) → (change row).controls ≡ row.controls) → (found : Option Process)
    → option_map (λ (row : Process). row.controls) (option_map change found) ≡ option_map (λ (row : Process). row.controls) found
found_same change same None = refl
found_same change same (Some row) = ap (λ (orders : List Order). Some orders) (same row)

-- a change of anything but controls
all_same : (number one : ℕ) (change : Process → Process) → IsOf one change → ((row : Process) → (change row).controls ≡ row.controls)
    → (rows : List Process)
    → listed number (map change rows) ≡ listed number rows
all_same number one change is same rows =
    ap (option_map (λ (row : Process). row.controls)) (found_map (has number) change
    (λ row. ap (λ n. n == number) (is.number_same row)) rows)
    ∙ found_same change same (find (has number) rows)

-- a change of another process
others_same : (number one : ℕ) (change : Process → Process) → IsOf one change → (number == one) ≡ false → (rows : List Process)
    → listed number (map change rows) ≡ listed number rows
others_same number one change is other rows = ap (option_map (λ (row : Process). row.controls))
    (others_changed number one change rows is other)

-- another process leaves
others_left : (number one : ℕ) → (number == one) ≡ false → (rows : List Process)
    → listed number (filter (λ (row : Process). not (row.number == one)) rows) ≡ listed number rows
others_left number one other rows =
    ap (option_map (λ (row : Process). row.controls)) (find_filter (has number) (λ (row : Process). not (row.number == one))
    (λ row same. ap not (apart number one row other same)) rows)

queues : (limit one : ℕ) (order : Order) → IsOf one (controlled_if limit one order)
queues limit one order = record {
  number_same = λ row. ap (λ (r : Process). r.number) (controls_more limit one order row);
  others = λ row e. rw e refl;
}

relieves : (one : ℕ) → IsOf one (dequeued_if one)
relieves one = record { number_same = λ row. ap (λ (r : Process). r.number) (controls_fewer one row); others = λ row e. rw e refl }

releases : (one service : ℕ) → IsOf one (released_if one service)
releases one service = record {
  number_same = λ row. ap (λ (r : Process). r.number) (controls_released one service row);
  others = λ row e. rw e refl;
}

-- a report that stops a service of a shared process and rings not this process is of another
pub stops_another : (f : Flat) (report : Status) (number one : ℕ)
    → is_rung (if_stopped report (shared_or_nobody f (Some one))) number ≡ false
    → (report.state == SERVICE_STOPPED) ≡ true → is_shared (process_of f one) ≡ true → (number == one) ≡ false
stops_another f report number one quiet stops shared =
    subst (λ b. is_rung (cond b (children.One one) children.Nobody) number ≡ false) shared
    (subst (λ b. is_rung (cond b (shared_or_nobody f (Some one)) children.Nobody) number ≡ false) stops quiet)

-- the orders of a service stay in a process that isn't shared
unshared_same : (number one service : ℕ) (rows : List Process) → is_shared (find (has one) rows) ≡ false
    → listed number (map (released_if one service) rows) ≡ listed number rows
unshared_same number one service rows alone =
    elim (number == one) as (λ b. (number == one) ≡ b → listed number (map (released_if one service) rows) ≡ listed number rows) [
      | true ↦ λ e. subst (λ n. listed n (map (released_if one service) rows) ≡ listed n rows) (sym (eqb-true number one e))
          (ap (option_map (λ (row : Process). row.controls)) (found_map (has one) (released_if one service)
          (λ row. ap (λ n. n == one) ((releases one service).number_same row)) rows) ∙ still (find (has one) rows) alone)
      | false ↦ λ e. others_same number one (released_if one service) (releases one service) e rows
    ] refl
  where
    still : (found : Option Process) → is_shared found ≡ false → option_map (λ (row : Process). row.controls)
        (option_map (released_if one service) found) ≡ option_map (λ (row : Process). row.controls) found
    still None alone = refl
    still (Some row) alone = rw (and_right (row.number == one) row.shared alone) refl

-- a report takes orders from no process but a shared one of a service that it stops
released_unstirred : (f : Flat) (number : ℕ) (report : Status) (row : Service)
    → is_rung (if_stopped report (shared_or_nobody f (Some row.process))) number ≡ false
    → listed number (released_by report row f.processes) ≡ listed number f.processes
released_unstirred f number report row quiet =
    elim (is_stopped_by report row) as (λ b. is_stopped_by report row ≡ b
    → listed number (cond b (map (released_if row.process row.number) f.processes) f.processes) ≡ listed number f.processes) [
      | true ↦ λ stops. released (and_parts _ (report.state == SERVICE_STOPPED) stops).1
      | false ↦ λ runs. refl
    ] refl
  where
    released : (report.state == SERVICE_STOPPED) ≡ true
        → listed number (map (released_if row.process row.number) f.processes) ≡ listed number f.processes
    released stops = elim (is_shared (process_of f row.process)) as (λ b. is_shared (process_of f row.process) ≡ b
        → listed number (map (released_if row.process row.number) f.processes) ≡ listed number f.processes) [
          | true ↦ λ shared. others_same number row.process (released_if row.process row.number) (releases row.process row.number)
              (stops_another f report number row.process quiet stops shared) f.processes
          | false ↦ λ alone. unshared_same number row.process row.number f.processes alone
        ] refl

taken_same : (one : ℕ) (row : Process) → (taken_if one row).controls ≡ row.controls
taken_same one row = elim (row.number == one) as (λ b. (cond b (record row { phase = phases.Taken }) row).controls ≡ row.controls)
    [ true ↦ refl | false ↦ refl ]

launched_same : (one pid : ℕ) (row : Process) → (launched_if one pid row).controls ≡ row.controls
launched_same one pid row = elim (row.number == one) as (λ b. (cond b (record row { phase = phases.Launched; pid = pid }) row).controls ≡
    row.controls) [ true ↦ refl | false ↦ refl ]

-- ## Calls

abbrev is_control : Request → Bool
is_control (request.Control handle control) = true
is_control (request.SetStatus handle status) = true
is_control asked = false

done_same : (l : Limits) (f : Flat) (caller : ℕ) (asked : Request) → is_control asked ≡ false
    → (done_of l f caller asked).flat.processes ≡ f.processes
done_same l f caller (request.Control handle control) other = absurd cc
done_same l f caller (request.SetStatus handle status) other = absurd cc
done_same l f caller (request.OpenService handle name access) other = opened_keeps
    (λ (g : Flat). g.processes ≡ f.processes) f caller name access refl (λ row is. refl)
done_same l f caller (request.Start handle words) other = started_keeps (λ (g : Flat). g.processes ≡ f.processes) f caller handle words refl
    (λ row is. refl)
done_same l f caller (request.Notify handle mask) other = notify_apart (λ (g : Flat). g.processes ≡ f.processes) f caller handle mask
    (λ rows next. refl)
done_same l f caller asked other = refl

-- a call that is neither a control nor a report changes no process
call_same : (l : Limits) (f : Flat) (caller : ℕ) (asked : Request) (append : Kept) → is_control asked ≡ false
    → (call_of l f caller asked append).flat.processes ≡ f.processes
call_same l f caller asked append other =
    by_verdict (λ r. r.flat.processes ≡ f.processes) (verdict l f caller asked append)
    (told_refused f caller asked (verdict l f caller asked append)) f (done_of l f caller asked)
    (λ e. done_same l f caller asked other) (λ e. refl)

-- a control changes no process but that of its service
control_unstirred : (l : Limits) (f : Flat) (control number : ℕ) (found : Option Service)
    → is_rung (one_or_nobody (option_map (λ (row : Service). row.process) found)) number ≡ false
    → listed number (controlled_in l control found f.processes) ≡ listed number f.processes
control_unstirred l f control number None quiet = refl
control_unstirred l f control number (Some row) quiet =
    others_same number row.process (controlled_if l.controls row.process (order_to row.number control))
    (queues l.controls row.process (order_to row.number control)) quiet
    f.processes

held_released : (f : Flat) (number : ℕ) (report : Status) (found : Option Service)
    → is_rung (if_stopped report (shared_or_nobody f (option_map (λ (row : Service). row.process) found))) number ≡ false
    → listed number (if_found (released_by report) found f.processes) ≡ listed number f.processes
held_released f number report None quiet = refl
held_released f number report (Some row) quiet = released_unstirred f number report row quiet

call_unstirred : (l : Limits) (f : Flat) (moment caller : ℕ) (asked : Request) (append : Kept) (number : ℕ)
    → is_rung (controls_rung f caller asked) number ≡ false
    → listed number (call_of l (with_moment f moment) caller asked append).flat.processes ≡ listed number f.processes
call_unstirred l f moment caller (request.Control handle control) append number quiet =
    let g = with_moment f moment in
    let asked = request.Control handle control in
    by_verdict (λ r. listed number r.flat.processes ≡ listed number f.processes) (verdict l g caller asked append)
    (told_refused g caller asked (verdict l g caller asked append)) g (done_of l g caller asked)
    (λ e. control_unstirred l f control number (held_service f caller handle) quiet) (λ e. refl)
call_unstirred l f moment caller (request.SetStatus handle status) append number quiet =
    let g = with_moment f moment in
    let asked = request.SetStatus handle status in
    by_verdict (λ r. listed number r.flat.processes ≡ listed number f.processes) (verdict l g caller asked append)
    (told_refused g caller asked (verdict l g caller asked append)) g (done_of l g caller asked)
    (λ e. failing_apart (λ (h : Flat). listed number h.processes ≡ listed number f.processes)
    (failed_by status (held_service f caller handle)) _ (held_released f number status (held_service f caller handle) quiet)) (λ e. refl)
call_unstirred l f moment caller asked append number quiet = ap (listed number)
    (call_same l (with_moment f moment) caller asked append refl)

-- ## Steps

effect_unstirred : (l : Limits) (f : Flat) (moment : ℕ) (step : Step) (number : ℕ) → number < f.next.process
    → is_rung (effect_rung f step) number ≡ false
    → listed number (effect_of l (at_moment f moment step) step).flat.processes ≡ listed number f.processes
effect_unstirred l f moment (Call caller asked append) number low quiet = call_unstirred l f moment caller asked append number quiet
effect_unstirred l f moment LaunchTaken number low quiet =
    found_keeps (λ (rows : List Process). listed number rows ≡ listed number f.processes) (λ process. map (taken_if process))
    (first_wanted f.wanted) f.processes refl
    (λ one is. all_same number one (taken_if one) (takes one) (taken_same one) f.processes)
effect_unstirred l f moment (Launched process pid) number low quiet =
    all_same number process (launched_if process pid) (launches process pid) (launched_same process pid) f.processes
effect_unstirred l f moment (LaunchFailed process code) number low quiet = others_left number process quiet f.processes
effect_unstirred l f moment (Report process service status) number low quiet =
    failing_apart (λ (g : Flat). listed number g.processes ≡ listed number f.processes) (failed_by status (reporting f process service)) _
    (found_keeps (λ (rows : List Process). listed number rows ≡ listed number f.processes) (released_by status)
    (reporting f process service) f.processes refl
    (λ row is. released_unstirred f number status row
    (subst (λ n. is_rung (if_stopped status (shared_or_nobody f (Some n))) number ≡ false)
    (sym (by_parts process row (reporting_by f process service row is).1).1) quiet)))
effect_unstirred l f moment (Ended process) number low quiet =
    all_failing_apart (λ (g : Flat). listed number (without_process g process).processes ≡ listed number f.processes)
    (currents process f.services) (with_fallen (with_moment f moment) process ERROR_PROCESS_ABORTED) (others_left number process quiet
    f.processes)
effect_unstirred l f moment (ControlTaken process) number low quiet = by (first_asked f process)
  where
    by : (found : Option Service) → listed number (dequeued_in found process f.processes) ≡ listed number f.processes
    by None = others_same number process (dequeued_if process) (relieves process) quiet f.processes
    by (Some row) = refl
effect_unstirred l f moment Tick number low quiet = ap (option_map (λ (row : Process). row.controls))
    (ticked_still l (with_moment f moment) number low).same
effect_unstirred l f moment (Raised caller subtype) number low quiet = absurd cc
effect_unstirred l f moment step number low quiet = refl

-- the effect of a step doesn't ring a process, and the step asks no service to start in one that is listed
pub record IsAside (f : Flat) (step : Step) (number : ℕ) : Type 0 where
  pub effect : is_rung (effect_rung f step) number ≡ false
  pub hosts : (rings_common step && may_host f step) ≡ false

-- a process that a step doesn't ring
pub aside_by : (f : Flat) (step : Step) (number : ℕ) → is_rung (children_rung f step) number ≡ false → IsAside f step number
aside_by f step number quiet =
    elim (rings_common step && may_host f step) as (λ b. (rings_common step && may_host f step) ≡ b
    → is_rung (cond b children.All (effect_rung f step)) number ≡ false → IsAside f step number) [
      | true ↦ λ all no. absurd cc
      | false ↦ λ none no. record { effect = no; hosts = none }
    ] refl quiet

-- what became of a change plays no part
pub rung_kept : (f : Flat) (step : Step) (append : Kept) → children_rung f (with_kept step append) ≡ children_rung f step
rung_kept f (Call caller asked now) append = refl
rung_kept f step append = refl

unstirred : (f : Flat) (step : Step) → StirsNoOther f step (children_rung f step)
unstirred f step l moment append process low quiet =
    let made = with_kept step append in
    let aside : IsAside f made process =
    aside_by f made process (subst (λ (rung : Children). is_rung rung process ≡ false) (sym (rung_kept f step append)) quiet) in
    ap (option_map (λ (row : Process). row.controls)) (after_effect l f moment made process low)
    ∙ effect_unstirred l f moment made process low aside.effect

pub stirs_no_other : (f : Flat) (step : Step) (rung : Children) → rung ≡ children_rung f step → StirsNoOther f step rung
stirs_no_other f step rung is = subst (StirsNoOther f step) (sym is) (unstirred f step)
