-- How services move before plans are settled.
use Rattle.std.proofs.Common.{ℕ, ◌≡◌, ◌∙◌, ◌<◌, ◌≤◌, ◌==◌, Bool, true, false, cond, IsTrue, Ok, Err, List, Option, None, Some, find, map}
use Rattle.std.proofs.Common.{get_or, ap, sym, refl, subst, arith, inl, inr, eq-eqb, eqb-true}
use Rattle.std.specs.Prelude.{All, AllPairs}
use Rattle.std.proofs.lemmas.List.{map-id}
use Rattle.std.proofs.lemmas.List.Elements.{All-map, All-push, All-weaker}
use Rattle.scm_model.specs.declared.flat.Config.{Config}
use Rattle.scm_model.specs.declared.flat.Flat.{Flat}
use Rattle.scm_model.specs.declared.flat.Limits.{Limits}
use Rattle.scm_model.specs.declared.flat.Process.{Process}
use Rattle.scm_model.specs.declared.flat.Service.{Service}
use Rattle.scm_model.specs.declared.flat.Status.{Status}
use Rattle.scm_model.specs.declared.calls.Request.{Request}
use Rattle.scm_model.specs.declared.calls.Request.TheVariants as request
use Rattle.scm_model.specs.declared.steps.Kept.{Kept}
use Rattle.scm_model.specs.declared.steps.Step.{Step}
use Rattle.scm_model.specs.declared.steps.Step.TheVariants.{Call, ControlTaken, LaunchFailed, Report, Ended, Tick, Raised}
use Rattle.scm_model.specs.Changes.{configured_if, marked_if, with_moment}
use Rattle.status_machine.specs.Moves.{take_report, takes}
use Rattle.scm_rules.specs.Controls.{first_asked, unasked_if}
use Rattle.scm_rules.specs.Launches.{currents, fallen_if, is_by, is_launched, process_of, with_fallen}
use Rattle.scm_rules.specs.Reports.{is_reporter, moved_by, reported_if, reporting, set_status_verdict}
use Rattle.scm_rules.specs.Steps.{at_moment, effect_of, may}
use Rattle.scm_rules.specs.Valid.{IsValid}
use Rattle.scm_rules.specs.Verdicts.{call_of, done_of, told_refused, verdict}
use Rattle.scm_runs.specs.Leaving.{is_report}
use Rattle.scm_runs.proofs.Calls.{by_verdict, set_status_runs}
use Rattle.scm_runs.proofs.Lists.{found_has, found_passes, alone}
use Rattle.scm_moves.specs.Moves.{MovesItself, code_of_end, reported_status}
use Rattle.scm_runs.proofs.Configured.{number_kept}
use Rattle.scm_model.proofs.Found.{found_keeps}
use Rattle.scm_runs.proofs.Founds.{notify_apart, opened_keeps, secured_keeps, started_keeps}
use Rattle.scm_model.specs.Rows.{held_service}
use Rattle.scm_rules.specs.Change.{new_config}
use Rattle.scm_rules.specs.Change2.{level_config}
use Rattle.scm_rules.specs.Failures.{failed_by}
use Rattle.scm_runs.proofs.Failing.{all_failing_rows, failing_rows}
use Rattle.scm_runs.proofs.Rows.{by_parts, fallen_or, reported_or, unasked_or}
use Rattle.scm_runs.proofs.Sound.{reporting_by}
use Rattle.scm_rules.proofs.Held.{held_is}
use Rattle.std.proofs.lemmas.Bool.Decides.{nat_tests}
use Rattle.scm_runs.proofs.Unasked.{raised_apart, ticked_apart}
use Rattle.scm_rules.specs.Security.{asked_security, descriptor_in, secured_if}
use Rattle.scm_rules.proofs.Secured.{secured_or}

-- ## Rows

abbrev pub AreRising : List Service → Type 0
AreRising rows = AllPairs (λ (a b : Service). a.number < b.number) rows

-- the service with the same number before has moved so
abbrev pub HasOwn : Flat → Step → Service → Type 0
HasOwn f step new = All (λ (old : Service). old.number ≡ new.number → MovesItself f step old new.status) f.services

-- a step that changes rows one by one
own_mapped : (f : Flat) (step : Step) (g : Service → Service) → AreRising f.services → ((row : Service) → (g row).number ≡ row.number)
    → All (λ row. MovesItself f step row (g row).status) f.services
    → All (HasOwn f step) (map g f.services)
own_mapped f step g rising same each =
    All-map (HasOwn f step) g f.services
    (λ k d lt. let row = get_or f.services k d in
    All-weaker (λ (old : Service). old.number ≡ row.number → old ≡ row) (λ (old : Service). old.number ≡ (g row).number
    → MovesItself f step old (g row).status)
    (λ old is e. subst (λ (r : Service). MovesItself f step r (g row).status) (sym (is (e ∙ same row))) (each k d lt)) f.services
    (alone (λ (r : Service). r.number) f.services rising k d lt))

-- a step that changes no row
own_same : (f : Flat) (step : Step) → AreRising f.services → All (HasOwn f step) f.services
own_same f step rising = subst (λ rows. All (HasOwn f step) rows) (map-id f.services)
    (own_mapped f step (λ row. row) rising (λ row. refl) (λ k d lt. inl refl))

-- ## Processes

-- a process that is listed has a number
listed_first : (l : Limits) (f : Flat) (process : ℕ) (row : Process) → IsValid l f → process_of f process ≡ Some row → 1 ≤ process
listed_first l f process row v e =
    let is = eqb-true row.number process (found_passes (λ (r : Process). r.number == process) row f.processes e) in
    subst (λ n. 1 ≤ n) is (found_has (λ (r : Process). 1 ≤ r.number) (λ (r : Process). r.number == process) row f.processes
    v.processes.positive e)

pub running_first : (l : Limits) (f : Flat) (process : ℕ) (found : Option Process) → IsValid l f → process_of f process ≡ found
    → is_launched found ≡ true → 1 ≤ process
running_first l f process None v e runs = absurd cc
running_first l f process (Some row) v e runs = listed_first l f process row v e

-- ## Ends

not_zero : (n : ℕ) → (n == 0) ≡ false → 1 ≤ n
not_zero n e = grind (arith, nat_tests)

-- a service's current process has a number
pub by_first : (process : ℕ) (row : Service) → is_by process row ≡ true → 1 ≤ row.process
by_first process row by = (let parts = by_parts process row by in not_zero row.process (ap (λ n. n == 0) parts.1 ∙ parts.0))

fallen_own : (f : Flat) (step : Step) (process code : ℕ) (row : Service) → code_of_end step process ≡ Some code
    → MovesItself f step row (fallen_if process code row).status
fallen_own f step process code row by =
    fallen_or (λ new. MovesItself f step row new.status) process code row
    (λ e. inr (inr (record {
      process = by_first process row e;
      code = code;
      by = ap (code_of_end step) (by_parts process row e).1 ∙ by;
      fallen = refl;
    }))) (inl refl)

pub fallen_number : (process code : ℕ) (row : Service) → (fallen_if process code row).number ≡ row.number
fallen_number process code row = fallen_or (λ new. new.number ≡ row.number) process code row (λ e. refl) refl

own_fallen : (f : Flat) (step : Step) (process code : ℕ) → AreRising f.services → code_of_end step process ≡ Some code
    → All (HasOwn f step) (map (fallen_if process code) f.services)
own_fallen f step process code rising by =
    own_mapped f step (fallen_if process code) rising (fallen_number process code)
    (λ k d lt. fallen_own f step process code (get_or f.services k d) by)

-- ## Reports

moved_own : (f : Flat) (step : Step) (report : Status) (row : Service) → 1 ≤ row.process → is_report f step row ≡ true
    → reported_status step ≡ Some report → MovesItself f step row (moved_by row (take_report row.status report)).status
moved_own f step report row first by is =
    elim (takes row.status report) as (λ b. takes row.status report ≡ b
    → MovesItself f step row (moved_by row (cond b (Ok report) (Err 13))).status) [
      | true ↦ λ e. inr (inl (record { process = first; by = by; report = is; taken = e }))
      | false ↦ λ e. inl refl
    ] refl

-- the service with the number of one that reports
abbrev IsReporting : Flat → Step → ℕ → Service → Type 0
IsReporting f step number row = (row.number == number) ≡ true → (1 ≤ row.process) × (is_report f step row ≡ true)

reported_own : (f : Flat) (step : Step) (number : ℕ) (report : Status) (row : Service) → IsReporting f step number row
    → reported_status step ≡ Some report → MovesItself f step row (reported_if number report row).status
reported_own f step number report row by is =
    elim (row.number == number) as (λ b. (row.number == number) ≡ b
    → MovesItself f step row (cond b (moved_by row (take_report row.status report)) row).status) [
      | true ↦ λ e. moved_own f step report row (by e).0 (by e).1 is
      | false ↦ λ e. inl refl
    ] refl

pub reported_number : (number : ℕ) (report : Status) (row : Service) → (reported_if number report row).number ≡ row.number
reported_number number report row = reported_or (λ new. new.number ≡ row.number) number report row (λ e t. refl) refl

own_reported : (f : Flat) (step : Step) (number : ℕ) (report : Status) → AreRising f.services → All (IsReporting f step number) f.services
    → reported_status step ≡ Some report → All (HasOwn f step) (map (reported_if number report) f.services)
own_reported f step number report rising by is =
    own_mapped f step (reported_if number report) rising (reported_number number report)
    (λ k d lt. reported_own f step number report (get_or f.services k d) (by k d lt) is)

-- no other service has the number of one that is found
pub only_one : (p : Service → Bool) (one : Service) (rows : List Service) → AreRising rows → find p rows ≡ Some one
    → All (λ (row : Service). row.number ≡ one.number → row ≡ one) rows
only_one p one rows rising is =
    found_has (λ (row : Service). All (λ (other : Service). other.number ≡ row.number → other ≡ row) rows) p one rows
    (alone (λ (row : Service). row.number) rows rising) is

one_reports : (f : Flat) (step : Step) (one : Service) → All (λ (row : Service). row.number ≡ one.number → row ≡ one) f.services
    → 1 ≤ one.process → is_report f step one ≡ true → All (IsReporting f step one.number) f.services
one_reports f step one only first by k d lt e =
    subst (λ (row : Service). (1 ≤ row.process) × (is_report f step row ≡ true))
    (sym (only k d lt (eqb-true (get_or f.services k d).number one.number e))) (first, by)

-- ## Calls

own_configured : (f : Flat) (step : Step) (number : ℕ) (config : Config) (row : Service)
    → MovesItself f step row (configured_if number config row).status
own_configured f step number config row =
    elim (row.number == number) as (λ b. MovesItself f step row (cond b
    (record row { config = config; status = record row.status { kind = config.kind } }) row).status) [
      | true ↦ inl refl
      | false ↦ inl refl
    ]

own_change : (f : Flat) (step : Step) (number : ℕ) (config : Config) → AreRising f.services
    → All (HasOwn f step) (map (configured_if number config) f.services)
own_change f step number config rising =
    own_mapped f step (configured_if number config) rising (number_kept number config)
    (λ k d lt. own_configured f step number config (get_or f.services k d))

-- the service that may report has a process
set_first : (l : Limits) (f : Flat) (moment caller handle : ℕ) (report : Status) (row : Service) → IsValid l f
    → held_service f caller handle ≡ Some row → set_status_verdict (with_moment f moment) caller handle report ≡ 0
    → 1 ≤ row.process
set_first l f moment caller handle report row v is e =
    running_first l f row.process (process_of f row.process) v refl (set_status_runs (with_moment f moment) caller handle report row is e)

own_done : (l : Limits) (f : Flat) (moment caller : ℕ) (asked : Request) (append : Kept) → IsValid l f
    → verdict l (with_moment f moment) caller asked append ≡ 0
    → All (HasOwn f (Call caller asked append)) (done_of l (with_moment f moment) caller asked).flat.services
own_done l f moment caller (request.Delete handle) append v e =
    let step = Call caller (request.Delete handle) append in
    found_keeps (All (HasOwn f step)) (λ (row : Service). map (marked_if row.number)) (held_service f caller handle) f.services
    (own_same f step v.services.rising)
    (λ one is. own_mapped f step (marked_if one.number) v.services.rising (λ row. refl) (λ k d lt. inl refl))
own_done l f moment caller (request.SetStatus handle report) append v e =
    let step = Call caller (request.SetStatus handle report) append in
    failing_rows (HasOwn f step) (λ row failures last own. own) (failed_by report (held_service f caller handle)) _
    (found_keeps (All (HasOwn f step)) (λ (row : Service). map (reported_if row.number report)) (held_service f caller handle) f.services
    (own_same f step v.services.rising)
    (λ one is. own_reported f step one.number report v.services.rising (one_reports f step one
    (only_one (λ (row : Service). row.number == one.number) one f.services v.services.rising (held_is f caller handle one is))
    (set_first l f moment caller handle report one v is e) (rw (is, eq-eqb one.number one.number refl) refl)) refl))
own_done l f moment caller (request.Change change) append v e =
    let step = Call caller (request.Change change) append in
    let new = new_config (with_moment f moment) change in
    found_keeps (All (HasOwn f step)) (λ (row : Service). map (configured_if row.number (new row)))
    (held_service f caller change.handle) f.services (own_same f step v.services.rising)
    (λ one is. own_change f step one.number (new one) v.services.rising)
own_done l f moment caller (request.Change2 handle level) append v e =
    let step = Call caller (request.Change2 handle level) append in
    found_keeps (All (HasOwn f step)) (λ (row : Service). map (configured_if row.number (level_config level row)))
    (held_service f caller handle) f.services (own_same f step v.services.rising)
    (λ one is. own_change f step one.number (level_config level one) v.services.rising)
own_done l f moment caller (request.SetSecurity handle parts bytes) append v e =
    let step = Call caller (request.SetSecurity handle parts bytes) append in
    secured_keeps (All (HasOwn f step)) (held_service f caller handle)
    (asked_security f caller handle parts (descriptor_in bytes)) f.services
    (own_same f step v.services.rising)
    (λ one security is. own_mapped f step (secured_if one.number security) v.services.rising
    (λ row. secured_or (λ new. new.number ≡ row.number) one.number security row refl refl)
    (λ k d lt. let row = get_or f.services k d in
    secured_or (λ new. MovesItself f step row new.status) one.number security row (inl refl) (inl refl)))
own_done l f moment caller (request.OpenService handle name access) append v e =
    let step = Call caller (request.OpenService handle name access) append in
    opened_keeps (λ (g : Flat). All (HasOwn f step) g.services) (with_moment f moment) caller name access
    (own_same f step v.services.rising) (λ row is. own_same f step v.services.rising)
own_done l f moment caller (request.Start handle words) append v e =
    let step = Call caller (request.Start handle words) append in
    started_keeps (λ (g : Flat). All (HasOwn f step) g.services) (with_moment f moment) caller handle words
    (own_same f step v.services.rising) (λ row is. own_same f step v.services.rising)
own_done l f moment caller (request.Create new) append v e =
    All-push (HasOwn f _) f.services _ (own_same f _ v.services.rising)
    (λ k d lt same. absurd (let below = v.services.below k d lt in omega arith))
own_done l f moment caller (request.Notify handle mask) append v e =
    let step = Call caller (request.Notify handle mask) append in
    notify_apart (λ (g : Flat). All (HasOwn f step) g.services) (with_moment f moment) caller handle mask
    (λ rows next. own_same f step v.services.rising)
own_done l f moment caller asked append v e = own_same f _ v.services.rising

own_call : (l : Limits) (f : Flat) (moment caller : ℕ) (asked : Request) (append : Kept) → IsValid l f
    → All (HasOwn f (Call caller asked append)) (call_of l (with_moment f moment) caller asked append).flat.services
own_call l f moment caller asked append v =
    let g = with_moment f moment in
    let code = verdict l g caller asked append in
    by_verdict (λ r. All (HasOwn f (Call caller asked append)) r.flat.services) code (told_refused g caller asked code) g
    (done_of l g caller asked)
    (own_done l f moment caller asked append v) (λ e. own_same f _ v.services.rising)

-- ## Effects

ends_with : (process code : ℕ) → cond (process == process) (Some code) None ≡ Some code
ends_with process code = rw (eq-eqb process process refl) refl

pub own_effect : (l : Limits) (f : Flat) (moment : ℕ) (step : Step) → IsValid l f → IsTrue (may l f moment step)
    → All (HasOwn f step) (effect_of l (at_moment f moment step) step).flat.services
own_effect l f moment (Call caller asked append) v ok = own_call l f moment caller asked append v
own_effect l f moment (LaunchFailed process code) v ok =
    own_fallen f _ process code v.services.rising (ends_with process code)
own_effect l f moment (Ended process) v ok =
    all_failing_rows (HasOwn f (Ended process)) (λ row failures last own. own) (currents process f.services)
    (with_fallen (with_moment f moment) process 1067)
    (own_fallen f _ process 1067 v.services.rising (ends_with process 1067))
own_effect l f moment (Report process service report) v ok =
    let step = Report process service report in
    failing_rows (HasOwn f step) (λ row failures last own. own) (failed_by report (reporting (with_moment f moment) process service)) _
    (found_keeps (All (HasOwn f step)) (λ (row : Service). map (reported_if row.number report)) (reporting f process service) f.services
    (own_same f step v.services.rising)
    (λ one is. (let by = found_passes (is_reporter f process service) one f.services is in
    own_reported f step one.number report v.services.rising
    (one_reports f step one (only_one (is_reporter f process service) one f.services v.services.rising is)
    (by_first process one (reporting_by f process service one is).1) by) refl)))
own_effect l f moment (ControlTaken process) v ok =
    let step = ControlTaken process in
    found_keeps (All (HasOwn f step)) (λ (row : Service). map (unasked_if row.number)) (first_asked f process) f.services
    (own_same f step v.services.rising)
    (λ one is. own_mapped f step (unasked_if one.number) v.services.rising
    (λ row. unasked_or (λ new. new.number ≡ row.number) one.number row refl refl)
    (λ k d lt. unasked_or (λ new. MovesItself f step (get_or f.services k d) new.status) one.number (get_or f.services k d)
    (inl refl) (inl refl)))
own_effect l f moment Tick v ok = ticked_apart (λ (g : Flat). All (HasOwn f Tick) g.services) l (with_moment f moment)
    (own_same f Tick v.services.rising)
own_effect l f moment (Raised caller subtype) v ok =
    raised_apart (λ (g : Flat). All (HasOwn f (Raised caller subtype)) g.services) l (with_moment f moment) caller subtype
    (own_same f _ v.services.rising)
own_effect l f moment step v ok = own_same f _ v.services.rising
