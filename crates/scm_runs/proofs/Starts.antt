-- The law of starts.
use Rattle.std.proofs.Common.{ℕ, suc, ◌≡◌, ◌<◌, ◌⊎◌, ◌∙◌, ◌==◌, ◌||◌, ◌&&◌, Bool, true, false, not, cond, IsTrue, List, [], ◌∷◌, Option}
use Rattle.std.proofs.Common.{None, Some, eqb, length}
use Rattle.std.proofs.Common.{filter, find, map, get_or, ap, sym, refl, subst, arith, eq-eqb, eqb-true, ne_eqb, inl, inr}
use Rattle.std.specs.Prelude.{All, AllPairs, Ok, Err}
use Rattle.std.specs.List.{AllByRecursion, IsDistinct, list_all, list_any}
use Rattle.std.proofs.lemmas.List.Elements.{All-cons, All-filter, All-head, All-map, All-nil, All-push, All-tail, All-weaker}
use Rattle.scm_text.specs.Fold.{same_text}
use Rattle.scm_model.specs.declared.flat.Config.{Config}
use Rattle.scm_model.specs.declared.flat.Flat.{Flat}
use Rattle.scm_model.specs.declared.flat.HandleRow.{HandleRow}
use Rattle.scm_model.specs.declared.flat.Limits.{Limits}
use Rattle.scm_model.specs.declared.flat.Need.{Need}
use Rattle.scm_model.specs.declared.flat.Need.TheVariants as needs
use Rattle.scm_model.specs.declared.flat.Plan.{Plan}
use Rattle.scm_model.specs.declared.flat.Service.{Service}
use Rattle.scm_model.specs.declared.flat.Status.{Status}
use Rattle.scm_model.specs.declared.calls.Request.{Request}
use Rattle.scm_model.specs.declared.calls.Request.TheVariants as request
use Rattle.scm_model.specs.declared.steps.Kept.{Kept}
use Rattle.scm_model.specs.declared.steps.Step.{Step}
use Rattle.scm_model.specs.declared.steps.Step.TheVariants.{Call, ControlTaken, LaunchFailed, Report, Ended, Tick, Raised}
use Rattle.scm_model.specs.Changes.{configured_if, marked_if, with_moment}
use Rattle.scm_model.specs.Purge.{leaves, purged}
use Rattle.scm_model.specs.Ready.{is_fulfilled, is_running, is_up}
use Rattle.start_plan.specs.Settle.{settled}
use Rattle.start_plan.specs.Started.{AreStarted, IsOnce, IsStarted}
use Rattle.start_plan.proofs.Enterings.{enters_the_ready}
use Rattle.scm_rules.specs.Controls.{first_asked, unasked_if}
use Rattle.scm_rules.specs.Launches.{currents, fallen_if, is_by, with_fallen}
use Rattle.scm_rules.specs.Reports.{is_reporter, is_stopped_by, moved_by, reported_if, reporter, reporting, set_status_verdict}
use Rattle.scm_rules.specs.Reports.{with_report_of}
use Rattle.scm_rules.specs.Steps.{at_moment, effect_of, finished_step, may}
use Rattle.scm_rules.specs.Verdicts.{call_of, done_of, told_refused, verdict}
use Rattle.status_machine.specs.Moves.{is_move, is_well_formed, take_report, takes}
use Rattle.scm_runs.specs.Leaving.{is_handle_of, is_number_of}
use Rattle.scm_runs.specs.Starts.{IsStarting, LawOfStarts, had_process, is_entered, is_stopping, starts_on}
use Rattle.scm_runs.proofs.Along.{Gives}
use Rattle.scm_runs.proofs.Calls.{by_verdict, of_effect}
use Rattle.scm_runs.proofs.Frames.{finished_keeps}
use Rattle.scm_runs.proofs.Lists.{any_at, found_passes}
use Rattle.scm_runs.proofs.Rows.{fallen_or, unasked_or}
use Rattle.scm_runs.proofs.Sound.{Sound}
use Rattle.std.proofs.lemmas.Bool.{and_parts, not-true, or_right}
use Rattle.scm_model.proofs.Found.{found_either, found_keeps}
use Rattle.scm_rules.specs.Security.{asked_security, descriptor_in}
use Rattle.scm_runs.proofs.Founds.{opened_keeps, secured_rows, started_keeps, notify_apart}
use Rattle.scm_model.specs.Rows.{held_service}
use Rattle.scm_rules.specs.Change.{new_config}
use Rattle.scm_rules.specs.Failures.{failed_by}
use Rattle.scm_runs.proofs.Failing.{all_failing_rows, failing_rows}
use Rattle.scm_runs.proofs.Unasked.{raised_apart, ticked_apart}
use Rattle.scm_rules.specs.Change2.{level_config}

-- ## Tests

or_more : (a b : Bool) → a ≡ true → (a || b) ≡ true
or_more true b e = refl
or_more false b e = absurd cc

any_weaker : {X : Type 0} (p q : X → Bool) (xs : List X) → ((x : X) → p x ≡ true → q x ≡ true) → list_any p xs ≡ true
    → list_any q xs ≡ true
any_weaker p q [] keeps h = absurd cc
any_weaker p q (x ∷ xs) keeps h =
    elim (p x) as (λ b. p x ≡ b → (b || list_any p xs) ≡ true → (q x || list_any q xs) ≡ true) [
      | true ↦ λ e g. or_more (q x) (list_any q xs) (keeps x e)
      | false ↦ λ e g. or_right (q x) (list_any q xs) (any_weaker p q xs keeps g)
    ] refl h

is_false : (b : Bool) → (b ≡ true → ⊥) → b ≡ false
is_false true never = absurd (never refl)
is_false false never = refl

none_found : {X : Type 0} (p : X → Bool) (xs : List X) → find p xs ≡ None → All (λ x. p x ≡ false) xs
none_found p [] none = All-nil (λ x. p x ≡ false)
none_found p (x ∷ xs) none =
    elim (p x) as (λ b. p x ≡ b → cond b (Some x) (find p xs) ≡ None → All (λ y. p y ≡ false) (x ∷ xs)) [
      | true ↦ λ e g. absurd cc
      | false ↦ λ e g. All-cons (λ y. p y ≡ false) x xs e (none_found p xs g)
    ] refl none

-- ## Reports of START_PENDING

only_first : (a r : Bool) → r ≡ false → ((a && true) || r) ≡ true → a ≡ true
only_first true r e h = refl
only_first false r e h = absurd cc

none_of : (a r : Bool) → r ≡ false → ((a && false) || r) ≡ false
none_of true r e = e
none_of false r e = e

-- only who is START_PENDING may report to be so
from_pending : (state : ℕ) → is_move state 2 ≡ true → (state == 2) ≡ true
from_pending state h =
    only_first (state == 2) _ (none_of (state == 4) _ (none_of (state == 6) _ (none_of (state == 7) _ (none_of (state == 5) _
    (none_of (state == 3) false refl))))) h

pending_before : (now report : Status) → takes now report ≡ true → report.state ≡ 2 → (now.state == 2) ≡ true
pending_before now report taken pending =
    from_pending now.state (subst (λ n. is_move now.state n ≡ true) pending
    (and_parts (is_well_formed now report) (is_move now.state report.state) taken).1)

-- ## What effects leave of processes

-- a service has no process, or had it before
abbrev HasOld : Flat → Service → Type 0
HasOld f row = (row.process == 0 || had_process f row) ≡ true

-- and where it is START_PENDING, it was so before, by that process, and the step doesn't stop it
abbrev pub IsOld : Flat → Step → Service → Type 0
IsOld f step row = HasOld f row × ((row.status.state == 2) ≡ true → list_any (starts_on f step row) f.services ≡ true)

has_old : (f : Flat) (k : ℕ) (d : Service) → k < length f.services → HasOld f (get_or f.services k d)
has_old f k d lt =
    let row = get_or f.services k d in
    or_right (row.process == 0) _
    (any_at (λ (old : Service). old.number == row.number && old.process == row.process) f.services k d lt
    (rw (eq-eqb row.number row.number refl, eq-eqb row.process row.process refl) refl))

goes_on : (f : Flat) (step : Step) (k : ℕ) (d : Service) → k < length f.services → is_stopping f step (get_or f.services k d) ≡ false
    → ((get_or f.services k d).status.state == 2) ≡ true → list_any (starts_on f step (get_or f.services k d)) f.services ≡ true
goes_on f step k d lt calm pending =
    let row = get_or f.services k d in
    any_at (starts_on f step row) f.services k d lt
    (rw (eq-eqb row.number row.number refl, eq-eqb row.process row.process refl, pending, calm) refl)

-- a service that the step doesn't stop
abbrev IsCalm : Flat → Step → Service → Type 0
IsCalm f step row = is_stopping f step row ≡ false

all_old : (f : Flat) (step : Step) → All (IsCalm f step) f.services → All (IsOld f step) f.services
all_old f step calm k d lt = (has_old f k d lt, goes_on f step k d lt (calm k d lt))

old_change : (f : Flat) (step : Step) (number : ℕ) (config : Config) → All (IsCalm f step) f.services
    → All (IsOld f step) (map (configured_if number config) f.services)
old_change f step number config calm =
    All-map (IsOld f step) (configured_if number config) f.services
    (λ k d lt. (let row = get_or f.services k d in
    elim (row.number == number) as (λ b. IsOld f step (cond b (record row {
      config = config;
      status = record row.status { kind = config.kind };
    }) row)) [
      | true ↦ all_old f step calm k d lt
      | false ↦ all_old f step calm k d lt
    ]))

-- the step stops no service but that with this number, by this report
abbrev StopsOne : Flat → Step → ℕ → Status → Service → Type 0
StopsOne f step number report row = is_stopping f step row ≡ true
    → ((row.number == number) ≡ true) × (is_stopped_by report row ≡ true)

-- a report that is taken
old_moved : (f : Flat) (step : Step) (number : ℕ) (report : Status) (k : ℕ) (d : Service) → k < length f.services
    → StopsOne f step number report (get_or f.services k d) → takes (get_or f.services k d).status report ≡ true
    → IsOld f step (moved_by (get_or f.services k d) (Ok report))
old_moved f step number report k d lt stops taken =
    let row = get_or f.services k d in (
      elim (report.state == 1) as (λ b. HasOld f (record row { status = report; process = cond b 0 row.process }))
          [ true ↦ refl | false ↦ has_old f k d lt ],
      λ pending.
          let two = eqb-true report.state 2 pending in
          let running : (report.state == 1) ≡ false = ap (λ n. n == 1) two in
          let calm : is_stopping f step row ≡ false = is_false (is_stopping f step row)
          (λ is. absurd (let stopped = (and_parts (takes row.status report) (report.state == 1) (stops is).1).1 in cc)) in
          subst (λ b. list_any (starts_on f step (record row { status = report; process = cond b 0 row.process })) f.services ≡ true)
          (sym running) (goes_on f step k d lt calm (pending_before row.status report taken two)),
    )

old_reported : (f : Flat) (step : Step) (number : ℕ) (report : Status) → All (StopsOne f step number report) f.services
    → All (IsOld f step) (map (reported_if number report) f.services)
old_reported f step number report stops =
    All-map (IsOld f step) (reported_if number report) f.services
    (λ k d lt. (let row = get_or f.services k d in
    elim (row.number == number) as (λ b. (row.number == number) ≡ b
    → IsOld f step (cond b (moved_by row (take_report row.status report)) row)) [
      | true ↦ λ e. elim (takes row.status report) as (λ t. takes row.status report ≡ t
          → IsOld f step (moved_by row (cond t (Ok report) (Err 13)))) [
            | true ↦ λ taken. old_moved f step number report k d lt (stops k d lt) taken
            | false ↦ λ refused. (
              has_old f k d lt,
              goes_on f step k d lt (is_false (is_stopping f step row) (λ is. absurd (let taken = (and_parts (takes row.status report)
                  (report.state == 1) (stops k d lt is).1).0 in cc))),
            )
          ] refl
      | false ↦ λ e. (
        has_old f k d lt,
        goes_on f step k d lt (is_false (is_stopping f step row) (λ is. absurd (let same = (stops k d lt is).0 in cc))),
      )
    ] refl))

-- a report of a service that was found
old_found : (f : Flat) (moment : ℕ) (step : Step) (found : Option Service) (report : Status)
    → (found ≡ None → All (IsCalm f step) f.services)
    → ((one : Service) → found ≡ Some one → All (StopsOne f step one.number report) f.services)
    → All (IsOld f step) (with_report_of (with_moment f moment) found report).services
old_found f moment step found report calm stops =
    failing_rows (IsOld f step) (λ row failures last old. old) (failed_by report found) _
    (found_either (All (IsOld f step)) (λ (row : Service). map (reported_if row.number report)) found f.services
    (λ none. all_old f step (calm none)) (λ row is. old_reported f step row.number report (stops row is)))

-- a report of a process
old_own : (f : Flat) (moment process service : ℕ) (report : Status)
    → All (IsOld f (Report process service report))
    (with_report_of (with_moment f moment) (reporting f process service) report).services
old_own f moment process service report =
    let step = Report process service report in
    let reports = is_reporter f process service in
    old_found f moment step (reporting f process service) report
    (λ none k d lt. ap (λ b. b && is_stopped_by report (get_or f.services k d)) (none_found reports f.services none k d lt))
    (λ one is k d lt stopping.
    let row = get_or f.services k d in
    let number = reporter f process service in
    let by = and_parts (reports row) (is_stopped_by report row) stopping in
    let here = eqb-true row.number number (and_parts (row.number == number) (is_by process row) by.0).0 in
    let there = eqb-true one.number number
    (and_parts (one.number == number) (is_by process one) (found_passes reports one f.services is)).0 in
    (eq-eqb row.number one.number (here ∙ sym there), by.1))

-- a report by a call
old_told : (f : Flat) (moment caller handle : ℕ) (report : Status) (append : Kept)
    → All (IsOld f (Call caller (request.SetStatus handle report) append))
    (with_report_of (with_moment f moment) (held_service f caller handle) report).services
old_told f moment caller handle report append =
    let step = Call caller (request.SetStatus handle report) append in
    let taken = set_status_verdict f caller handle report == 0 in
    old_found f moment step (held_service f caller handle) report
    (λ none k d lt. is_false _ (λ stopping.
    let row = get_or f.services k d in
    let held = (and_parts taken (is_handle_of f caller handle row.number) (and_parts (taken && is_handle_of f caller handle row.number)
    (is_stopped_by report row) stopping).0).1 in
    let no : is_number_of None row.number ≡ true = subst (λ found. is_number_of found row.number ≡ true) none held in
    absurd cc))
    (λ one is k d lt stopping.
    let row = get_or f.services k d in
    let by = and_parts (taken && is_handle_of f caller handle row.number) (is_stopped_by report row) stopping in
    let held = (and_parts taken (is_handle_of f caller handle row.number) by.0).1 in
    (subst (λ found. is_number_of found row.number ≡ true) is held, by.1))

old_fallen : (f : Flat) (step : Step) (process code : ℕ) → All (IsCalm f step) f.services
    → All (IsOld f step) (map (fallen_if process code) f.services)
old_fallen f step process code calm =
    All-map (IsOld f step) (fallen_if process code) f.services (λ k d lt. fallen_or (IsOld f step) process code
    (get_or f.services k d) (λ e. (refl, λ pending. absurd cc)) (all_old f step calm k d lt))

old_done : (l : Limits) (f : Flat) (moment caller : ℕ) (asked : Request) (append : Kept)
    → All (IsOld f (Call caller asked append)) (done_of l (with_moment f moment) caller asked).flat.services
old_done l f moment caller (request.Delete handle) append =
    let step = Call caller (request.Delete handle) append in
    let stood = all_old f step (λ k d lt. refl) in
    found_keeps (All (IsOld f step)) (λ (row : Service). map (marked_if row.number)) (held_service f caller handle) f.services stood
    (λ row is. All-map (IsOld f step) (marked_if row.number) f.services stood)
old_done l f moment caller (request.SetStatus handle report) append = old_told f moment caller handle report append
old_done l f moment caller (request.Change change) append =
    let step = Call caller (request.Change change) append in
    found_keeps (All (IsOld f step)) (λ (row : Service). map (configured_if row.number (new_config (with_moment f moment) change row)))
    (held_service f caller change.handle) f.services (all_old f step (λ k d lt. refl))
    (λ row is. old_change f step row.number (new_config (with_moment f moment) change row) (λ k d lt. refl))
old_done l f moment caller (request.Change2 handle asked) append =
    let step = Call caller (request.Change2 handle asked) append in
    found_keeps (All (IsOld f step)) (λ (row : Service). map (configured_if row.number (level_config asked row)))
    (held_service f caller handle) f.services (all_old f step (λ k d lt. refl))
    (λ row is. old_change f step row.number (level_config asked row) (λ k d lt. refl))
old_done l f moment caller (request.SetSecurity handle parts bytes) append =
    let step = Call caller (request.SetSecurity handle parts bytes) append in
    secured_rows (IsOld f step) (λ row security is. is) (held_service f caller handle)
    (asked_security f caller handle parts (descriptor_in bytes)) f.services (all_old f step (λ k d lt. refl))
old_done l f moment caller (request.OpenService handle name access) append =
    let stood = all_old f (Call caller (request.OpenService handle name access) append) (λ k d lt. refl) in
    opened_keeps (λ (g : Flat). All (IsOld f (Call caller (request.OpenService handle name access) append)) g.services)
    (with_moment f moment) caller name access stood (λ row is. stood)
old_done l f moment caller (request.Start handle words) append =
    let stood = all_old f (Call caller (request.Start handle words) append) (λ k d lt. refl) in
    started_keeps (λ (g : Flat). All (IsOld f (Call caller (request.Start handle words) append)) g.services)
    (with_moment f moment) caller handle words stood (λ row is. stood)
old_done l f moment caller (request.Create new) append =
    let step = Call caller (request.Create new) append in
    All-push (IsOld f step) f.services _ (all_old f step (λ k d lt. refl)) (refl, λ pending. absurd cc)
old_done l f moment caller (request.Notify handle mask) append =
    let stood = all_old f (Call caller (request.Notify handle mask) append) (λ k d lt. refl) in
    notify_apart (λ (g : Flat). All (IsOld f (Call caller (request.Notify handle mask) append)) g.services)
    (with_moment f moment) caller handle mask (λ rows next. stood)
old_done l f moment caller asked append = all_old f (Call caller asked append) (λ k d lt. refl)

-- a call that is refused stops no service
refused_calm : (l : Limits) (f : Flat) (moment caller : ℕ) (asked : Request) (append : Kept) (row : Service)
    → (verdict l (with_moment f moment) caller asked append == 0) ≡ false → IsCalm f (Call caller asked append) row
refused_calm l f moment caller (request.SetStatus handle report) append row e =
    ap (λ b. b && is_handle_of f caller handle row.number && is_stopped_by report row) e
refused_calm l f moment caller asked append row e = refl

old_call : (l : Limits) (f : Flat) (moment caller : ℕ) (asked : Request) (append : Kept)
    → All (IsOld f (Call caller asked append)) (call_of l (with_moment f moment) caller asked append).flat.services
old_call l f moment caller asked append =
    let g = with_moment f moment in
    by_verdict (λ r. All (IsOld f (Call caller asked append)) r.flat.services) (verdict l g caller asked append)
    (told_refused g caller asked (verdict l g caller asked append)) g (done_of l g caller asked)
    (λ e. old_done l f moment caller asked append)
    (λ e. all_old f (Call caller asked append) (λ k d lt. refused_calm l f moment caller asked append (get_or f.services k d) e))

-- an effect gives nobody a process, and starts nobody
pub old_effect : (l : Limits) (f : Flat) (moment : ℕ) (step : Step)
    → All (IsOld f step) (effect_of l (at_moment f moment step) step).flat.services
old_effect l f moment (Call caller asked append) = old_call l f moment caller asked append
old_effect l f moment (LaunchFailed process code) = old_fallen f (LaunchFailed process code) process code (λ k d lt. refl)
old_effect l f moment (Report process service status) = old_own f moment process service status
old_effect l f moment (Ended process) =
    all_failing_rows (IsOld f (Ended process)) (λ row failures last old. old) (currents process f.services)
    (with_fallen (with_moment f moment) process 1067) (old_fallen f (Ended process) process 1067 (λ k d lt. refl))
old_effect l f moment (ControlTaken process) =
    let step = ControlTaken process in
    let stood = all_old f step (λ k d lt. refl) in
    found_keeps (All (IsOld f step)) (λ (row : Service). map (unasked_if row.number)) (first_asked f process) f.services stood
    (λ row is. All-map (IsOld f step) (unasked_if row.number) f.services (λ k d lt. unasked_or (IsOld f step) row.number
    (get_or f.services k d) (stood k d lt) (stood k d lt)))
old_effect l f moment Tick = ticked_apart (λ (g : Flat). All (IsOld f Tick) g.services) l (with_moment f moment)
    (all_old f Tick (λ k d lt. refl))
old_effect l f moment (Raised caller subtype) = raised_apart (λ (g : Flat). All (IsOld f (Raised caller subtype)) g.services) l
    (with_moment f moment) caller subtype (all_old f (Raised caller subtype) (λ k d lt. refl))
old_effect l f moment step = all_old f step (λ k d lt. refl)

-- who is as it was after the effect isn't entered
pub not_entered : (f : Flat) (step : Step) (row : Service) → IsOld f step row → is_entered f step row ≡ false
not_entered f step row old =
    is_false (is_entered f step row) (λ is.
    let parts = and_parts (row.status.state == 2) (not (list_any (starts_on f step row) f.services)) is in
    let goes = old.1 parts.0 in
    let none = not-true (list_any (starts_on f step row) f.services) parts.1 in
    absurd cc)

-- ## What settling makes of them

apart : (number : ℕ) (rows : List Service) → All (λ (row : Service). number < row.number) rows
    → AllByRecursion (λ y. eqb number y ≡ false) (map (λ (row : Service). row.number) rows)
apart number [] above = tt
apart number (row ∷ rows) above = (
  ne_eqb number row.number (λ e. absurd (let here = All-head (λ (r : Service). number < r.number) row rows above in
      omega (arith, e, here))),
  apart number rows (All-tail (λ (r : Service). number < r.number) row rows above),
)

-- rising numbers are each a service's own
pub is_once : (rows : List Service) → AllPairs (λ (a b : Service). a.number < b.number) rows → IsOnce rows
unfolding IsDistinct
is_once [] rising = tt
is_once (row ∷ rows) rising = (
  apart row.number rows (λ k d lt. rising 0 (suc k) d (omega arith) (omega arith)),
  is_once rows (λ i j d lt within. rising (suc i) (suc j) d (omega arith) (omega arith)),
)

-- what the law says of a service
record IsRight (before : Flat) (step : Step) (f : Flat) (row : Service) : Type 0 where
  new : is_entered before step row ≡ true → IsStarting f row
  old : (row.process == 0 || had_process before row || is_entered before step row) ≡ true

old_right : (before : Flat) (step : Step) (f : Flat) (row : Service) → IsOld before step row → IsRight before step f row
old_right before step f row old = record {
  new = λ is. absurd (let no = not_entered before step row old in cc);
  old = or_more (row.process == 0 || had_process before row) (is_entered before step row) old.0;
}

-- who is START_PENDING had its process before, or is entered
had_or_entered : (before : Flat) (step : Step) (row : Service) → row.status.state ≡ 2
    → (row.process == 0 || had_process before row || is_entered before step row) ≡ true
had_or_entered before step row pending =
    let had = row.process == 0 || had_process before row in
    elim (list_any (starts_on before step row) before.services) as (λ b. list_any (starts_on before step row) before.services ≡ b
    → (had || (row.status.state == 2 && not b)) ≡ true) [
      | true ↦ λ some. or_more had _ (or_right (row.process == 0) (had_process before row) (any_weaker (starts_on before step row)
          (λ (old : Service). old.number == row.number && old.process == row.process) before.services
          (λ old is. (and_parts _ _ (and_parts _ _ is).0).0) some))
      | false ↦ λ none. or_right had _ (rw (eq-eqb row.status.state 2 pending) refl)
    ] refl

started_right : (before : Flat) (step : Step) (next : ℕ) (f : Flat) (mid row : Service) → IsStarted next f mid row
    → IsRight before step f row
started_right before step next f mid row is =
    let pending : row.status.state ≡ 2 = ap (λ (r : Service). r.status.state) is.entered in
    record {
      new = λ entered. record {
        pending = pending;
        ready = is.ready;
        unmarked = is.unmarked;
        enabled = is.enabled;
        free = is.free;
      };
      old = had_or_entered before step row pending;
    }

one_right : (before : Flat) (step : Step) (next : ℕ) (f : Flat) (mid row : Service) → IsOld before step mid
    → (row ≡ mid) ⊎ IsStarted next f mid row → IsRight before step f row
one_right before step next f mid row old (inl same) = old_right before step f row (subst (IsOld before step) (sym same) old)
one_right before step next f mid row old (inr is) = started_right before step next f mid row is

all_right : (before : Flat) (step : Step) (next : ℕ) (f : Flat) (mids rows : List Service) → All (IsOld before step) mids
    → AreStarted next f mids rows → All (IsRight before step f) rows
all_right before step next f [] [] old each = All-nil (IsRight before step f)
all_right before step next f [] (row ∷ rows) old each = absurd each
all_right before step next f (mid ∷ mids) [] old each = absurd each
all_right before step next f (mid ∷ mids) (row ∷ rows) old each =
    All-cons (IsRight before step f) row rows
    (one_right before step next f mid row (All-head (IsOld before step) mid mids old) each.0)
    (all_right before step next f mids rows (All-tail (IsOld before step) mid mids old) each.1)

settled_right : (l : Limits) (f : Flat) (moment : ℕ) (step : Step) → Sound f → IsTrue (may l f moment step)
    → All (IsRight f step (settled l (effect_of l (at_moment f moment step) step).flat))
    (settled l (effect_of l (at_moment f moment step) step).flat).services
settled_right l f moment step s ok =
    let g = (effect_of l (at_moment f moment step) step).flat in
    let sound : Sound g = of_effect l f moment step s ok in
    all_right f step g.next.process (settled l g) g.services (settled l g).services (old_effect l f moment step)
    (enters_the_ready l g (is_once g.services sound.services.numbered.rising))

-- ## Readiness when services leave

-- who is up stays
up_stays : (m s stopped h : Bool) → (not m && s) ≡ true → not (m && stopped && h) ≡ true
up_stays true s stopped h up = absurd cc
up_stays false s stopped h up = refl

-- who runs is not STOPPED
runs_stays : (m h : Bool) (state : ℕ) → (state == 4) ≡ true → not (m && state == 1 && h) ≡ true
runs_stays true h state runs = rw (ne_eqb state 1 (λ e. absurd (let four = eqb-true state 4 runs in omega (arith, e, four)))) refl
runs_stays false h state runs = refl

stays_up : (handles : List HandleRow) (row : Service) → is_up (Some row) ≡ true → not (leaves handles row) ≡ true
stays_up handles row up = up_stays row.marked (is_running row) _ _ up

stays_running : (handles : List HandleRow) (row : Service) → is_running row ≡ true → not (leaves handles row) ≡ true
stays_running handles row runs = runs_stays row.marked _ row.status.state runs

still_up : (handles : List HandleRow) (name : List ℕ) (rows : List Service)
    → is_up (find (λ (row : Service). same_text row.config.name name) rows) ≡ true
    → is_up (find (λ (row : Service). same_text row.config.name name) (filter (λ (row : Service). not (leaves handles row)) rows)) ≡ true
still_up handles name [] up = up
still_up handles name (row ∷ rows) up =
    let p = λ (row : Service). same_text row.config.name name in
    let q = λ (row : Service). not (leaves handles row) in
    elim (same_text row.config.name name) as (λ b. same_text row.config.name name ≡ b → is_up (cond b (Some row) (find p rows)) ≡ true
    → is_up (find p (cond (q row) (row ∷ filter q rows) (filter q rows))) ≡ true) [
      | true ↦ λ e h. rw (stays_up handles row h, e) h
      | false ↦ λ e h. elim (q row) as (λ b. is_up (find p (cond b (row ∷ filter q rows) (filter q rows))) ≡ true)
          [ true ↦ rw e (still_up handles name rows h) | false ↦ still_up handles name rows h ]
    ] refl up

still_running : (handles : List HandleRow) (group : List ℕ) (rows : List Service)
    → list_any is_running (filter (λ (row : Service). same_text row.config.group group) rows) ≡ true
    → list_any is_running (filter (λ (row : Service). same_text row.config.group group)
    (filter (λ (row : Service). not (leaves handles row)) rows)) ≡ true
still_running handles group [] h = h
still_running handles group (row ∷ rows) h =
    let p = λ (row : Service). same_text row.config.group group in
    let q = λ (row : Service). not (leaves handles row) in
    let rest = still_running handles group rows in
    elim (p row) as (λ b. p row ≡ b → list_any is_running (cond b (row ∷ filter p rows) (filter p rows)) ≡ true
    → list_any is_running (filter p (cond (q row) (row ∷ filter q rows) (filter q rows))) ≡ true) [
      | true ↦ λ e. elim (is_running row) as (λ r. is_running row ≡ r → (r || list_any is_running (filter p rows)) ≡ true
          → list_any is_running (filter p (cond (q row) (row ∷ filter q rows) (filter q rows))) ≡ true) [
            | true ↦ λ g t. rw (stays_running handles row g, e, g) refl
            | false ↦ λ g t. elim (q row) as (λ b. list_any is_running (filter p (cond b (row ∷ filter q rows) (filter q rows))) ≡ true)
                [ true ↦ rw (e, g) (rest t) | false ↦ rest t ]
          ] refl
      | false ↦ λ e t. elim (q row) as (λ b. list_any is_running (filter p (cond b (row ∷ filter q rows) (filter q rows))) ≡ true)
          [ true ↦ rw e (rest t) | false ↦ rest t ]
    ] refl h

still_fulfilled : (f : Flat) (need : Need) → is_fulfilled f need ≡ true → is_fulfilled (purged f) need ≡ true
still_fulfilled f (needs.Service name) h = still_up f.handles name f.services h
still_fulfilled f (needs.Group group) h = still_running f.handles group f.services h

both : (a b c d : Bool) → (a ≡ true → c ≡ true) → (b ≡ true → d ≡ true) → (a && b) ≡ true → (c && d) ≡ true
both true b c d left right h = rw (left refl) (right h)
both false b c d left right h = absurd cc

pub all_fulfilled : (f : Flat) (needed : List Need) → list_all (is_fulfilled f) needed ≡ true
    → list_all (is_fulfilled (purged f)) needed ≡ true
all_fulfilled f [] h = refl
all_fulfilled f (need ∷ needed) h = both (is_fulfilled f need) (list_all (is_fulfilled f) needed) _ _ (still_fulfilled f need)
    (all_fulfilled f needed) h

still_right : (before : Flat) (step : Step) (f : Flat) (row : Service) → IsRight before step f row
    → IsRight before step (purged f) row
still_right before step f row is = record {
  new = λ entered. (let was = is.new entered in record {
    pending = was.pending;
    ready = all_fulfilled f row.config.needs was.ready;
    unmarked = was.unmarked;
    enabled = was.enabled;
    free = was.free;
  });
  old = is.old;
}

-- ## Steps

-- nothing of that speaks of plans
without_plans : (before : Flat) (step : Step) (g : Flat) (plans : List Plan) (row : Service) → IsRight before step g row
    → IsRight before step (record g { plans = plans }) row
without_plans before step g plans row is = record {
  new = λ entered. (let was = is.new entered in record {
    pending = was.pending;
    ready = was.ready;
    unmarked = was.unmarked;
    enabled = was.enabled;
    free = was.free;
  });
  old = is.old;
}

before_right : (l : Limits) (f : Flat) (moment : ℕ) (step : Step) → Sound f → IsTrue (may l f moment step)
    → All (IsRight f step (finished_step l f moment step).flat) (finished_step l f moment step).flat.services
before_right l f moment step s ok =
    let done = effect_of l (at_moment f moment step) step in
    finished_keeps (λ (g : Flat). All (IsRight f step g) g.services)
    (λ g plans right. All-weaker (IsRight f step g) (IsRight f step (record g { plans = plans }))
    (without_plans f step g plans) g.services right)
    (settled l done.flat) done.answer (settled_right l f moment step s ok)

after_right : (before : Flat) (step : Step) (g : Flat) → All (IsRight before step g) g.services
    → All (IsRight before step (purged g)) (purged g).services
after_right before step g right =
    All-filter (λ (row : Service). not (leaves g.handles row)) (IsRight before step (purged g)) g.services
    (All-weaker (IsRight before step g) (IsRight before step (purged g)) (still_right before step g) g.services right)

pub gives : (l : Limits) → Gives Sound (LawOfStarts l) l
gives l f e s ok =
    let right = after_right f e.1 (finished_step l f e.0 e.1).flat (before_right l f e.0 e.1 s ok) in
    record { started = λ k d lt. (right k d lt).new; others = λ k d lt. (right k d lt).old }
