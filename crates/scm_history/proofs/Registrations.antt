-- What effects leave of registrations.
use Rattle.std.proofs.Common.{ℕ, ◌≡◌, ◌∙◌, ◌==◌, not, Bool, true, false, cond, IsTrue, List, [], ◌∷◌, ◌++◌, Option, None, Some, filter, map}
use Rattle.std.proofs.Common.{sym, refl, is_some, is_none}
use Rattle.std.specs.Prelude.{All, unwrap_or}
use Rattle.scm_model.proofs.Found.{found_keeps}
use Rattle.scm_runs.proofs.Lists.{found_has}
use Rattle.scm_model.specs.Notices.{event_of_creation, event_of_mark, noted, pid_of, put_in, taken_once, notified_of_move, new_registration}
use Rattle.scm_model.specs.Notices.{notified, event_of_state}
use Rattle.scm_model.specs.Changes.{with_moment}
use Rattle.scm_model.specs.Rows.{held_service, is_caller}
use Rattle.scm_model.specs.declared.calls.Request.{Request}
use Rattle.scm_model.specs.declared.calls.Request.TheVariants as request
use Rattle.scm_model.specs.declared.flat.Flat.{Flat}
use Rattle.scm_model.specs.declared.flat.Limits.{Limits}
use Rattle.scm_model.specs.declared.flat.Opened.{Opened}
use Rattle.scm_model.specs.declared.flat.Registration.{Registration}
use Rattle.scm_model.specs.declared.flat.Service.{Service}
use Rattle.scm_model.specs.declared.steps.Kept.{Kept}
use Rattle.scm_model.specs.declared.steps.Step.{Step}
use Rattle.scm_model.specs.declared.steps.Step.TheVariants.{Call, Ended, Gone, LaunchFailed, Report, Tick, Raised}
use Rattle.scm_rules.proofs.Held.{held_is}
use Rattle.scm_rules.specs.Create.{created_config, new_status}
use Rattle.scm_rules.specs.Launches.{currents, with_fallen}
use Rattle.scm_rules.specs.Notify.{notify_of, watched, initial_notification}
use Rattle.scm_rules.specs.Reports.{is_reporter, reported_if, reporting}
use Rattle.scm_rules.specs.Steps.{at_moment, effect_of, may, step_of}
use Rattle.scm_rules.specs.Verdicts.{call_of, done_of, told_refused, verdict}
use Rattle.scm_runs.proofs.Calls.{by_verdict, of_done as sound_done}
use Rattle.scm_runs.proofs.Founds.{notify_keeps, opened_keeps, started_keeps}
use Rattle.scm_runs.proofs.Sound.{Sound, are_named, moved}
use Rattle.scm_runs.proofs.Telling.{step_tells}
use Rattle.scm_runs.proofs.Told.{IsNamed, Tells, creation_proper, fall_tells, mark_tells, report_tells, notified_or}
use Rattle.scm_runs.proofs.Rows.{IsChecked}
use Rattle.std.proofs.lemmas.List.Elements.{All-head, All-tail}
use Rattle.std.proofs.lemmas.Bool.{and_parts}
use Rattle.scm_runs.proofs.Failing.{all_failing_apart, failing_apart}
use Rattle.scm_rules.specs.Failures.{failed_by}
use Rattle.scm_runs.proofs.Unasked.{raised_apart, ticked_apart}

-- whether a step may take what a registration was told, or close it
abbrev pub touches : Flat → Step → Bool
touches f (Call caller (request.GetNotify handle) append) = is_some (notify_of f caller handle)
touches f (Call caller (request.CloseNotify handle) append) = is_some (notify_of f caller handle)
touches f (Gone caller) = true
touches f step = false

-- the registration that a Notify makes
abbrev pub watching_row : Flat → ℕ → ℕ → ℕ → Opened → Registration
watching_row f caller handle mask of = initial_notification f (held_service f caller handle)
    (new_registration f.next.registration caller of.service mask)

-- a fact of registrations that each event keeps, and that holds where one comes, where a result is taken, and where some leave
pub record Stands (P : List Registration → Type 0) (f : Flat) (step : Step) : Type 0 where
  pub tells : Tells P
  pub was : touches f step ≡ false → P f.registrations
  pub comes : (caller handle mask : ℕ) (append : Kept) (of : Opened) → step ≡ Call caller (request.Notify handle mask) append
      → watched f caller handle ≡ Some of
      → P (put_in (watching_row f caller handle mask of) f.registrations)
  pub taken : (caller handle number : ℕ) (append : Kept) → step ≡ Call caller (request.GetNotify handle) append
      → notify_of f caller handle ≡ Some number → P (map (taken_once number) f.registrations)
  pub closed : (caller handle number : ℕ) (append : Kept) → step ≡ Call caller (request.CloseNotify handle) append
      → notify_of f caller handle ≡ Some number
      → P (filter (λ (row : Registration). not (row.number == number)) f.registrations)
  pub gone : (caller : ℕ) → step ≡ Gone caller → P (filter (λ (row : Registration). not (row.caller == caller)) f.registrations)

-- its number is the next one
pub made_number : (f : Flat) (caller handle mask : ℕ) (of : Opened) → (watching_row f caller handle mask of).number ≡ f.next.registration
made_number f caller handle mask of =
    let new = new_registration f.next.registration caller of.service mask in
    found_keeps (λ (row : Registration). row.number ≡ f.next.registration)
    (λ (row : Service). notified (event_of_state (pid_of f.processes row) row)) (held_service f caller handle) new refl
    (λ row is. notified_or (λ (r : Registration). r.number ≡ f.next.registration) (event_of_state (pid_of f.processes row) row) new
    (λ h. refl) refl)

-- ## Calls

last_has : {A : Type 0} (P : A → Type 0) (rows : List A) (row : A) → All P (rows ++ row ∷ []) → P row
last_has P [] row all = All-head P row [] all
last_has P (first ∷ rows) row all = last_has P rows row (All-tail P first (rows ++ row ∷ []) all)

-- of a handle of a registration, its number
by_number : (Q : ℕ → Type 0) (found : Option ℕ) → ◌≡◌ {A = ℕ} (cond (is_none found) 6 0) 0 → ((number : ℕ) → found ≡ Some number → Q number)
    → Q (unwrap_or found 0)
by_number Q None none each = absurd cc
by_number Q (Some number) none each = each number refl

held_named : (f : Flat) (caller handle : ℕ) (row : Service) → Sound f → held_service f caller handle ≡ Some row → IsNamed row
held_named f caller handle row s is = found_has IsNamed (λ (r : Service). r.number == row.number) row f.services (are_named f s)
    (held_is f caller handle row is)

of_done : (l : Limits) (P : List Registration → Type 0) (f : Flat) (caller : ℕ) (asked : Request) (append : Kept)
    → Stands P f (Call caller asked append) → Sound f → is_caller f caller ≡ true
    → verdict l f caller asked append ≡ 0 → P (done_of l f caller asked).flat.registrations
of_done l P f caller (request.Delete handle) append st s there e =
    found_keeps P (λ (row : Service). noted (event_of_mark (pid_of f.processes row) row)) (held_service f caller handle) f.registrations
    (st.was refl)
    (λ row is. mark_tells P st.tells f.processes row f.registrations (held_named f caller handle row s is) (st.was refl))
of_done l P f caller (request.SetStatus handle status) append st s there e =
    failing_apart (λ (g : Flat). P g.registrations) (failed_by status (held_service f caller handle)) _
    (found_keeps P (λ (row : Service). notified_of_move (pid_of f.processes (reported_if row.number status row)) row
    (reported_if row.number status row)) (held_service f caller handle) f.registrations (st.was refl)
    (λ row is. report_tells P st.tells f.processes status row f.registrations (held_named f caller handle row s is) (st.was refl)))
of_done l P f caller (request.Create new) append st s there e =
    st.tells (event_of_creation (created_config f new).name (new_status new.kind)) f.registrations
    (creation_proper (created_config f new) (new_status new.kind) (last_has IsChecked f.services _
    (sound_done l f caller (request.Create new) append s there e).services.configs)) (st.was refl)
of_done l P f caller (request.Notify handle mask) append st s there e =
    notify_keeps (λ (g : Flat). P g.registrations) f caller handle mask (st.was refl)
    (λ of is. st.comes caller handle mask append of refl is)
of_done l P f caller (request.GetNotify handle) append st s there e =
    by_number (λ n. P (map (taken_once n) f.registrations)) (notify_of f caller handle) e
    (λ number is. st.taken caller handle number append refl is)
of_done l P f caller (request.CloseNotify handle) append st s there e =
    by_number (λ n. P (filter (λ (row : Registration). not (row.number == n)) f.registrations)) (notify_of f caller handle) e
    (λ number is. st.closed caller handle number append refl is)
of_done l P f caller (request.OpenService handle name access) append st s there e =
    opened_keeps (λ (g : Flat). P g.registrations) f caller name access (st.was refl) (λ row is. st.was refl)
of_done l P f caller (request.Start handle words) append st s there e =
    started_keeps (λ (g : Flat). P g.registrations) f caller handle words (st.was refl) (λ row is. st.was refl)
of_done l P f caller asked append st s there e = st.was refl

-- a call that is refused touches nothing
none_there : (found : Option ℕ) → (cond (is_none found) 6 0 == 0) ≡ false → is_some found ≡ false
none_there None e = refl
none_there (Some number) e = absurd cc

untouched : (l : Limits) (f : Flat) (caller : ℕ) (asked : Request) (append : Kept) → (verdict l f caller asked append == 0) ≡ false
    → touches f (Call caller asked append) ≡ false
untouched l f caller (request.GetNotify handle) append e = none_there (notify_of f caller handle) e
untouched l f caller (request.CloseNotify handle) append e = none_there (notify_of f caller handle) e
untouched l f caller asked append e = refl

of_call : (l : Limits) (P : List Registration → Type 0) (f : Flat) (caller : ℕ) (asked : Request) (append : Kept)
    → Stands P f (Call caller asked append) → Sound f → is_caller f caller ≡ true
    → P (call_of l f caller asked append).flat.registrations
of_call l P f caller asked append st s there =
    let code = verdict l f caller asked append in
    by_verdict (λ r. P r.flat.registrations) code (told_refused f caller asked code) f (done_of l f caller asked)
    (of_done l P f caller asked append st s there)
    (λ e. st.was (untouched l f caller asked append e))

-- ## Steps

-- the moment tells nothing of them
at_any : (P : List Registration → Type 0) (f : Flat) (moment : ℕ) (step : Step) → Stands P f step
    → touches (with_moment f moment) step ≡ touches f step → Stands P (with_moment f moment) step
at_any P f moment step st same = record {
  tells = st.tells;
  was = λ untouched. st.was (sym same ∙ untouched);
  comes = st.comes;
  taken = st.taken;
  closed = st.closed;
  gone = st.gone;
}

same_touch : (f : Flat) (moment caller : ℕ) (asked : Request) (append : Kept)
    → touches (with_moment f moment) (Call caller asked append) ≡ touches f (Call caller asked append)
same_touch f moment caller (request.GetNotify handle) append = refl
same_touch f moment caller (request.CloseNotify handle) append = refl
same_touch f moment caller asked append = refl

of_effect : (l : Limits) (P : List Registration → Type 0) (f : Flat) (moment : ℕ) (step : Step) → Stands P f step → Sound f
    → IsTrue (may l f moment step)
    → P (effect_of l (at_moment f moment step) step).flat.registrations
of_effect l P f moment (Call caller asked append) st s ok =
    of_call l P (with_moment f moment) caller asked append (at_any P f moment (Call caller asked append) st
    (same_touch f moment caller asked append)) (moved f moment s) (and_parts _ _ (and_parts _ _ ok).0).0
of_effect l P f moment (LaunchFailed process code) st s ok = fall_tells P st.tells process code f.services f.registrations (are_named f s)
    (st.was refl)
of_effect l P f moment (Ended process) st s ok =
    all_failing_apart (λ (g : Flat). P g.registrations) (currents process f.services) (with_fallen (with_moment f moment) process 1067)
    (fall_tells P st.tells process 1067 f.services f.registrations (are_named f s) (st.was refl))
of_effect l P f moment (Report process service report) st s ok =
    failing_apart (λ (g : Flat). P g.registrations) (failed_by report (reporting f process service)) _
    (found_keeps P (λ (row : Service). notified_of_move (pid_of f.processes (reported_if row.number report row)) row
    (reported_if row.number report row)) (reporting f process service) f.registrations (st.was refl)
    (λ row is. report_tells P st.tells f.processes report row f.registrations
    (found_has IsNamed (is_reporter f process service) row f.services (are_named f s) is) (st.was refl)))
of_effect l P f moment (Gone caller) st s ok = st.gone caller refl
of_effect l P f moment Tick st s ok = ticked_apart (λ (g : Flat). P g.registrations) l (with_moment f moment) (st.was refl)
of_effect l P f moment (Raised caller subtype) st s ok = raised_apart (λ (g : Flat). P g.registrations) l
    (with_moment f moment) caller subtype (st.was refl)
of_effect l P f moment step st s ok = st.was refl

pub of_step : (l : Limits) (P : List Registration → Type 0) (f : Flat) (moment : ℕ) (step : Step) → Stands P f step → Sound f
    → IsTrue (may l f moment step) → P (step_of l f moment step).flat.registrations
of_step l P f moment step st s ok = step_tells l P f moment step st.tells s ok (of_effect l P f moment step st s ok)
