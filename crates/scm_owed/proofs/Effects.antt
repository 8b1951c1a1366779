-- What a step that isn't owed makes owed.
use Rattle.std.proofs.Common.{ℕ, ◌≡◌, ◌≤◌, ◌+◌, ◌*◌, ◌==◌, true, false, cond, List, [], ◌∷◌, Option, None, Some, filter, length}
use Rattle.std.proofs.Common.{length-append, map, ap}
use Rattle.std.proofs.Common.{refl, arith, eqb-true}
use Rattle.std.specs.Prelude.{is_some, unwrap_or}
use Rattle.scm_model.specs.declared.flat.Flat.{Flat}
use Rattle.scm_model.specs.declared.flat.Limits.{Limits}
use Rattle.scm_model.specs.declared.flat.Process.{Process}
use Rattle.scm_model.specs.declared.flat.Service.{Service}
use Rattle.scm_model.specs.declared.flat.Status.{Status}
use Rattle.scm_model.specs.declared.calls.Reply.{Reply}
use Rattle.scm_model.specs.declared.calls.Request.{Request}
use Rattle.scm_model.specs.declared.calls.Request.TheVariants as request
use Rattle.scm_model.specs.declared.steps.Kept.{Kept}
use Rattle.scm_model.specs.declared.steps.Step.{Step}
use Rattle.scm_model.specs.declared.steps.Step.TheVariants.{Joined, Call, EndStart, LaunchTaken, Launched, LaunchFailed, Report, Ended}
use Rattle.scm_model.specs.declared.steps.Step.TheVariants.{ControlTaken, Tick, Raised, Gone, NoMemory}
use Rattle.scm_model.specs.Refused.{answered}
use Rattle.scm_model.specs.Outcomes.{CallResult}
use Rattle.scm_model.specs.Ready.{state_of}
use Rattle.scm_rules.specs.Controls.{controlled_if, dequeued_if, dequeued_in, first_asked, order_to}
use Rattle.scm_rules.specs.Needs.{need_row, need_rows, start_order}
use Rattle.scm_rules.specs.Start.{new_plan, start_done, start_verdict, with_start}
use Rattle.scm_rules.specs.Steps.{effect_of}
use Rattle.scm_rules.specs.Verdicts.{call_of, done_of, told_refused, verdict}
use Rattle.scm_runs.proofs.Sound.{controls_fewer, controls_more, controls_released}
use Rattle.scm_rules.specs.Owed.{owed, owed_by_process}
use Rattle.start_plan.specs.Owed.{owed_by_plan, total}
use Rattle.scm_rules.specs.Room.{debt, is_owed, need}
use Rattle.scm_owed.proofs.Fewer.{few_in_order}
use Rattle.scm_owed.proofs.Starts.{all_untried, controls_owe, listed, one_at_most, plan_owes}
use Rattle.scm_owed.proofs.Ticking.{dues_owe, ticks_owe}
use Rattle.scm_owed.proofs.Raising.{raises_owe}
use Rattle.scm_runs.proofs.Bounded.{AreOnce}
use Rattle.scm_runs.proofs.Failing.{failing_apart}
use Rattle.scm_rules.specs.Failures.{failed_by}
use Rattle.scm_rules.specs.Reports.{is_stopped_by, released_by, released_if, reporting}
use Rattle.scm_rules.specs.Room.{is_started_at}
use Rattle.std.proofs.lemmas.Nat.{mul-le}
use Rattle.std.proofs.Math.Nat.{add-mul}
use Rattle.std.proofs.lemmas.List.{length-map}
use Rattle.scm_runs.proofs.Lists.{filter_short}
use Rattle.scm_model.proofs.Found.{found_keeps}
use Rattle.scm_model.specs.Found.{if_found}
use Rattle.scm_model.specs.Rows.{held_service}
use Rattle.scm_runs.proofs.Founds.{opened_keeps, notify_apart}
use Rattle.scm_runs.proofs.Calls.{start_held}
use Rattle.scm_rules.proofs.Held.{held_is}

-- ## Calls

start_owes : (f : Flat) (caller handle : ℕ) (words : Option (List (List ℕ))) → start_verdict f caller handle words ≡ 0
    → owed (start_done f caller handle words).flat + 1 ≤ owed f + (3 * length f.services + 2)
start_owes f caller handle words e =
    let held = start_held f caller handle words e in
    let target = held.row.number in
    let order = start_order f target in
    let plan = new_plan f caller target order (unwrap_or words []) in
    let begun = ap (λ found. owed (if_found (with_start caller (unwrap_or words [])) found f)) held.is in
    let more = plan_owes f plan in
    let few = few_in_order (need_rows f.services) (state_of f) target (listed f.services target
    (ap is_some (held_is f caller handle held.row held.is))) in
    let services : length (need_rows f.services) ≡ length f.services = length-map f.services need_row in
    let each = all_untried order in
    let one = one_at_most caller in
    omega (arith, begun, more, few, services, each, one)

zero_code : (code : ℕ) → (code == 0) ≡ true → code ≡ 0
zero_code code e = eqb-true code 0 e

of_answered : (code : ℕ) (told : Reply) (f : Flat) (done : CallResult) (n : ℕ) → 1 ≤ n → (code ≡ 0 → owed done.flat + 1 ≤ owed f + n)
    → owed (answered code told f done).flat + 1 ≤ owed f + n
of_answered code told f done n least owes =
    elim (code == 0) as (λ b. (code == 0) ≡ b → owed (cond b done (record { reply = told; flat = f })).flat + 1 ≤ owed f + n) [
      | true ↦ λ e. owes (zero_code code e)
      | false ↦ λ e. omega (arith, least)
    ] refl

-- a report that stops a service makes nothing owed
released_owe : (report : Status) (service : Option Service) (rows : List Process)
    → total owed_by_process (if_found (released_by report) service rows) ≡ total owed_by_process rows
released_owe report service rows =
    found_keeps (λ (left : List Process). total owed_by_process left ≡ total owed_by_process rows) (released_by report) service rows refl
    (λ row is. elim (is_stopped_by report row) as (λ b. total owed_by_process
    (cond b (map (released_if row.process row.number) rows) rows) ≡
    total owed_by_process rows) [
      | true ↦ controls_owe (released_if row.process row.number) (controls_released row.process row.number) rows
      | false ↦ refl
    ])

-- nor does what is sent next
sent_owe : (asked : Option Service) (process : ℕ) (rows : List Process)
    → total owed_by_process (dequeued_in asked process rows) ≡ total owed_by_process rows
sent_owe None process rows = controls_owe (dequeued_if process) (controls_fewer process) rows
sent_owe (Some row) process rows = refl

-- what a state owes goes by its callers, processes and plans
abbrev with_rows : Flat → ℕ → ℕ
with_rows f n = length f.callers + n + total owed_by_plan f.plans

of_call : (l : Limits) (f : Flat) (caller : ℕ) (asked : Request) (append : Kept) → owed (call_of l f caller asked append).flat + 1 ≤ owed f
    + need f (Call caller asked append)
of_call l f caller (request.Start handle words) append =
    let code = verdict l f caller (request.Start handle words) append in
    of_answered code (told_refused f caller (request.Start handle words) code) f (done_of l f caller (request.Start handle words))
    (3 * length f.services + 2) (omega arith) (λ e. start_owes f caller handle words e)
of_call l f caller (request.Control handle control) append =
    let code = verdict l f caller (request.Control handle control) append in
    let same = found_keeps (λ (rows : List Process). total owed_by_process rows ≡ total owed_by_process f.processes)
    (λ (row : Service). map (controlled_if l.controls row.process (order_to row.number control))) (held_service f caller handle)
    f.processes refl (λ row is. controls_owe (controlled_if l.controls row.process (order_to row.number control))
    (controls_more l.controls row.process (order_to row.number control)) f.processes) in
    of_answered code (told_refused f caller (request.Control handle control) code) f (done_of l f caller (request.Control handle control)) 1
    (omega arith) (λ e. omega (arith, same))
of_call l f caller (request.SetStatus handle status) append =
    let same : owed (done_of l f caller (request.SetStatus handle status)).flat ≡ owed f =
    failing_apart (λ (g : Flat). owed g ≡ owed f) (failed_by status (held_service f caller handle)) _
    (ap (with_rows f) (released_owe status (held_service f caller handle) f.processes)) in
    of_answered (verdict l f caller (request.SetStatus handle status) append) _ f (done_of l f caller (request.SetStatus handle status)) 1
    (omega arith) (λ e. omega (arith, same))
of_call l f caller (request.Notify handle mask) append =
    let same = notify_apart (λ (g : Flat). owed g ≡ owed f) f caller handle mask (λ rows next. refl) in
    of_answered (verdict l f caller (request.Notify handle mask) append) _ f (done_of l f caller (request.Notify handle mask)) 1
    (omega arith) (λ e. omega (arith, same))
of_call l f caller (request.OpenService handle name access) append =
    let same = opened_keeps (λ (g : Flat). owed g ≡ owed f) f caller name access refl (λ row is. refl) in
    of_answered (verdict l f caller (request.OpenService handle name access) append) _ f
    (done_of l f caller (request.OpenService handle name access)) 1 (omega arith) (λ e. omega (arith, same))
of_call l f caller asked append =
    let code = verdict l f caller asked append in
    of_answered code (told_refused f caller asked code) f (done_of l f caller asked) 1 (omega arith) (λ e. omega arith)

-- ## Effects

-- each service has its rows once, and a start of each is within the need
tick_most : (f : Flat) → AreOnce f.dues → debt f Tick ≤ need f Tick
tick_most f once =
    let all = dues_owe f once in
    let n = length f.services in
    let more = add-mul (3 * n) 1 n in
    omega (arith, all, more)

raise_most : (f : Flat) (caller : ℕ) (subtype : List ℕ) → debt f (Raised caller subtype) ≤ need f (Raised caller subtype)
raise_most f caller subtype =
    let n = length f.services in
    let few = filter_short (is_started_at subtype) f.services in
    let all = mul-le (3 * n) (length (filter (is_started_at subtype) f.services)) (3 * n) n (omega arith) few in
    let more = add-mul (3 * n) 1 n in
    omega (arith, all, more)

-- what a step may add and leave owed is at most its need, in a state where each service has one row at most that becomes due
pub debt_most : (f : Flat) (step : Step) → AreOnce f.dues → debt f step ≤ need f step
debt_most f (Joined principal) once = omega arith
debt_most f (Call caller asked append) once = omega arith
debt_most f (EndStart caller plan) once = omega arith
debt_most f LaunchTaken once = omega arith
debt_most f (Launched process pid) once = omega arith
debt_most f (LaunchFailed process code) once = omega arith
debt_most f (Report process service status) once = omega arith
debt_most f (Ended process) once = omega arith
debt_most f (ControlTaken process) once = omega arith
debt_most f Tick once = tick_most f once
debt_most f (Raised caller subtype) once = raise_most f caller subtype
debt_most f (Gone caller) once = omega arith
debt_most f (NoMemory caller) once = omega arith

-- and nothing where it is owed
pub debt_owed : (f : Flat) (step : Step) → is_owed step ≡ true → debt f step ≡ 0
debt_owed f (EndStart caller plan) e = refl
debt_owed f LaunchTaken e = refl
debt_owed f (Launched process pid) e = refl
debt_owed f (LaunchFailed process code) e = refl
debt_owed f (Ended process) e = refl
debt_owed f (Gone caller) e = refl
debt_owed f step e = absurd cc

pub effects_owe : (l : Limits) (f : Flat) (step : Step) → is_owed step ≡ false → owed (effect_of l f step).flat + 1 ≤ owed f + debt f step
effects_owe l f (Joined principal) e = let more = length-append f.callers (record { number = f.next.caller; principal = principal } ∷ []) in
    omega (arith, more)
effects_owe l f (Call caller asked append) e = of_call l f caller asked append
effects_owe l f (Report process service status) e =
    let same : owed (effect_of l f (Report process service status)).flat ≡ owed f =
    failing_apart (λ (g : Flat). owed g ≡ owed f) (failed_by status (reporting f process service)) _
    (ap (with_rows f) (released_owe status (reporting f process service) f.processes)) in
    omega (arith, same)
effects_owe l f (ControlTaken process) e = let same = sent_owe (first_asked f process) process f.processes in
    omega (arith, same)
effects_owe l f Tick e = let more = ticks_owe l f in omega (arith, more)
effects_owe l f (Raised caller subtype) e = let more = raises_owe l f caller subtype in omega (arith, more)
effects_owe l f (NoMemory caller) e = omega arith
effects_owe l f (EndStart caller plan) e = absurd cc
effects_owe l f LaunchTaken e = absurd cc
effects_owe l f (Launched process pid) e = absurd cc
effects_owe l f (LaunchFailed process code) e = absurd cc
effects_owe l f (Ended process) e = absurd cc
effects_owe l f (Gone caller) e = absurd cc
