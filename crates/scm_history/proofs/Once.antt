-- No number is given again.
use Rattle.std.proofs.Common.{ℕ, ◌≡◌, ◌⊎◌, ◌∙◌, ◌<◌, ◌≤◌, ◌==◌, Bool, true, false, cond, not, IsTrue, List, [], ◌∷◌, ◌++◌, Option, ap, sym}
use Rattle.std.proofs.Common.{refl, subst, arith, eqb-true, eq-eqb, inl, inr, get_or}
use Rattle.std.specs.Prelude.{All, Contains, is_some, not}
use Rattle.std.proofs.lemmas.List.Elements.{All-append, All-cons, All-contains_itself, All-filter, All-map, All-nil, All-push, All-weaker}
use Rattle.std.proofs.lemmas.List.Folds.{list_any_none}
use Rattle.scm_model.specs.declared.flat.Caller.{Caller}
use Rattle.scm_model.specs.declared.flat.Due.{Due}
use Rattle.scm_model.specs.declared.flat.Flat.{Flat}
use Rattle.scm_model.specs.declared.flat.HandleRow.{HandleRow}
use Rattle.scm_model.specs.declared.flat.Limits.{Limits}
use Rattle.scm_model.specs.declared.flat.Process.{Process}
use Rattle.scm_model.specs.declared.flat.Registration.{Registration}
use Rattle.scm_model.specs.declared.flat.Service.{Service}
use Rattle.scm_model.specs.declared.calls.Request.{Request}
use Rattle.scm_model.specs.declared.calls.Request.TheVariants as request
use Rattle.scm_model.specs.declared.steps.Answer.{Answer}
use Rattle.scm_model.specs.declared.steps.Kept.{Kept}
use Rattle.scm_model.specs.declared.steps.Step.{Step}
use Rattle.scm_model.specs.declared.steps.Step.TheVariants.{Call, Report, Ended, Tick, Raised}
use Rattle.scm_model.specs.Changes.{with_moment}
use Rattle.scm_model.specs.Entries.{Entry}
use Rattle.scm_model.specs.Rows.{is_caller}
use Rattle.start_plan.specs.Decided.{plan_of}
use Rattle.start_plan.specs.Settle.{is_due_still, settled}
use Rattle.scm_rules.specs.Histories.{state}
use Rattle.scm_rules.specs.Launches.{process_of}
use Rattle.scm_rules.specs.Runs.{IsLegal, run_state}
use Rattle.scm_rules.specs.Steps.{at_moment, effect_of, finished_step, may, step_of}
use Rattle.scm_rules.specs.Verdicts.{call_of, done_of, told_refused, verdict}
use Rattle.scm_runs.specs.Leaving.{before_leaving, created, numbers, succeeds}
use Rattle.scm_runs.proofs.Along.{Gives}
use Rattle.scm_runs.proofs.Calls.{by_verdict, keeps}
use Rattle.scm_runs.proofs.Founds.{opened_keeps, started_keeps, notify_keeps, notify_apart}
use Rattle.scm_runs.proofs.Frames.{finished_keeps, framed, settled_dues}
use Rattle.scm_runs.proofs.Handles.{gives as gives_handles}
use Rattle.scm_runs.proofs.Leaving.{gives as gives_leaving}
use Rattle.scm_runs.proofs.Lists.{any_at, each_number, has_own, is_some-find}
use Rattle.scm_runs.proofs.Sound.{Sound}
use Rattle.scm_history.proofs.Callers.{rising, stays_out}
use Rattle.scm_history.proofs.Finds.{found_below}
use Rattle.scm_history.proofs.Numbers.{plan_rises, stays_none}
use Rattle.scm_history.proofs.Plans.{plan_below}
use Rattle.scm_history.proofs.Processes.{after_effect, none_effect, process_rises}
use Rattle.scm_history.specs.Once.{AllAreGivenOnce, HasStood, IsNeverAgain, NoneIsGivenAgain, is_in_rows, HasWatched}
use Rattle.scm_history.proofs.Registrations.{Stands, watching_row, made_number, of_step as registrations_of_step}
use Rattle.scm_model.specs.Notices.{notified, taken_once}
use Rattle.scm_runs.proofs.Told.{notified_or}
use Rattle.scm_runs.proofs.Registered.{all_put, taken_or}
use Rattle.scm_runs.proofs.Failing.{any_failing_keeps, failing_keeps}
use Rattle.scm_runs.proofs.Unasked.{raised_by, ticked_by}
use Rattle.scm_rules.specs.Failures.{all_failed, failed_by, with_failure}
use Rattle.scm_rules.specs.Due.{beside, is_due_of, with_due}
use Rattle.scm_rules.specs.Start.{with_start}
use Rattle.scm_model.specs.Found.{if_found}
use Rattle.scm_rules.specs.Reports.{reporting}
use Rattle.scm_rules.specs.Launches.{currents, with_fallen}
use Rattle.scm_model.specs.declared.flat.DueKind.{DueKind}
use Rattle.scm_model.specs.declared.flat.DueKind.TheVariants as dues
use Rattle.scm_model.specs.declared.codes.TheConstants.{ERROR_PROCESS_ABORTED}
use Rattle.scm_model.specs.Rows.{held_service}

-- ## The next numbers

record Rises (f g : Flat) : Type 0 where
  service : f.next.service ≤ g.next.service
  registration : f.next.registration ≤ g.next.registration
  due : f.next.due ≤ g.next.due

no_rise : (f : Flat) → Rises f f
no_rise f = record { service = omega arith; registration = omega arith; due = omega arith }

failing_rises : (f : Flat) (found : Option Service) (g : Flat) → Rises f g → Rises f (if_found with_failure found g)
failing_rises f found g up =
    failing_keeps (Rises f) found g up (λ row is. record { service = up.service; registration = up.registration; due = up.due })
    (λ service h moment kind is more. record {
      service = more.service;
      registration = more.registration;
      due = (let least = more.due in omega (arith, least));
    })

all_failing_rises : (f : Flat) (rows : List Service) (g : Flat) → Rises f g → Rises f (all_failed rows g)
all_failing_rises f rows g up =
    any_failing_keeps (Rises f) rows g up
    (λ row h more. record { service = more.service; registration = more.registration; due = more.due })
    (λ service h moment kind is more. record {
      service = more.service;
      registration = more.registration;
      due = (let least = more.due in omega (arith, least));
    })

done_rises : (l : Limits) (f : Flat) (caller : ℕ) (asked : Request) → Rises f (done_of l f caller asked).flat
done_rises l f caller (request.OpenService handle name access) =
    opened_keeps (Rises f) f caller name access (no_rise f) (λ row is. record {
      service = omega arith;
      registration = omega arith;
      due = omega arith;
    })
done_rises l f caller (request.Start handle words) =
    started_keeps (Rises f) f caller handle words (no_rise f) (λ row is.
    record { service = omega arith; registration = omega arith; due = omega arith })
done_rises l f caller (request.SetStatus handle status) = failing_rises f (failed_by status (held_service f caller handle)) _
    (record { service = omega arith; registration = omega arith; due = omega arith })
done_rises l f caller (request.Notify handle mask) =
    notify_keeps (Rises f) f caller handle mask (record { service = omega arith; registration = omega arith; due = omega arith })
    (λ of is. record { service = omega arith; registration = omega arith; due = omega arith })
done_rises l f caller asked = record { service = omega arith; registration = omega arith; due = omega arith }

call_rises : (l : Limits) (f : Flat) (caller : ℕ) (asked : Request) (append : Kept) → Rises f (call_of l f caller asked append).flat
call_rises l f caller asked append =
    by_verdict (λ r. Rises f r.flat) (verdict l f caller asked append) (told_refused f caller asked (verdict l f caller asked append)) f
    (done_of l f caller asked)
    (λ e. done_rises l f caller asked) (λ e. record { service = omega arith; registration = omega arith; due = omega arith })

effect_rises : (l : Limits) (f : Flat) (moment : ℕ) (step : Step) → Rises f (effect_of l (at_moment f moment step) step).flat
effect_rises l f moment (Call caller asked append) =
    let up = call_rises l (with_moment f moment) caller asked append in
    record { service = up.service; registration = up.registration; due = up.due }
effect_rises l f moment (Report process service status) = failing_rises f (failed_by status (reporting f process service)) _
    (record { service = omega arith; registration = omega arith; due = omega arith })
effect_rises l f moment (Ended process) =
    let up = all_failing_rises f (currents process f.services) (with_fallen (with_moment f moment) process ERROR_PROCESS_ABORTED)
    (record { service = omega arith; registration = omega arith; due = omega arith }) in
    record { service = up.service; registration = up.registration; due = up.due }
effect_rises l f moment Tick = ticked_by (Rises f) l (record {
  spends = λ g row is up. record { service = up.service; registration = up.registration; due = up.due };
  starts = λ g row there can up. record {
    service = up.service;
    registration = up.registration;
    due = (let least = up.due in omega (arith, least));
  };
  runs = λ g row there can up. record { service = up.service; registration = up.registration; due = up.due };
  reboots = λ g up. record { service = up.service; registration = up.registration; due = up.due };
}) (with_moment f moment) (record { service = omega arith; registration = omega arith; due = omega arith })
effect_rises l f moment (Raised caller subtype) = raised_by (Rises f) l subtype (record {
  starts = λ g row there can up. record {
    service = up.service;
    registration = up.registration;
    due = (let least = up.due in omega (arith, least));
  };
  stops = λ g row action there is stops gets up. record { service = up.service; registration = up.registration; due = up.due };
}) (with_moment f moment) caller (record { service = omega arith; registration = omega arith; due = omega arith })
effect_rises l f moment step = record { service = omega arith; registration = omega arith; due = omega arith }

rises : (l : Limits) (f : Flat) (moment : ℕ) (step : Step) → Rises f (step_of l f moment step).flat
rises l f moment step =
    let up = effect_rises l f moment step in
    let frame = framed l f moment step in
    let service = ap (λ (x : Flat). x.next.service) frame in
    let registration = ap (λ (x : Flat). x.next.registration) frame in
    let due = ap (λ (x : Flat). x.next.due) frame in
    record {
      service = (let least = up.service in omega (arith, service, least));
      registration = (let least = up.registration in omega (arith, registration, least));
      due = (let least = up.due in omega (arith, due, least));
    }

-- ## Services

-- the number of a service that stood, or one that was not given
abbrev IsOwn : Flat → ℕ → Type 0
IsOwn f number = (is_in_rows (λ (row : Service). row.number) number f.services ≡ true) ⊎ (f.next.service ≤ number)

made_own : (f : Flat) (step : Step) (told : Answer) → All (IsOwn f) (created f step told)
made_own f (Call caller (request.Create new) append) told =
    elim (succeeds told) as (λ b. All (IsOwn f) (cond b (f.next.service ∷ []) []))
    [ true ↦ All-cons (IsOwn f) f.next.service [] (inr (omega arith)) (All-nil (IsOwn f)) | false ↦ All-nil (IsOwn f) ]
made_own f step told = All-nil (IsOwn f)

stood_own : (f : Flat) → All (IsOwn f) (numbers f.services)
stood_own f =
    All-map (IsOwn f) (λ (row : Service). row.number) f.services
    (All-weaker (HasStood f) (λ (row : Service). IsOwn f row.number) (λ row has. inl has) f.services
    (has_own (λ (row : Service). row.number) f.services))

services_once : (l : Limits) (f : Flat) (e : Entry) → Sound f → IsTrue (may l f e.0 e.1)
    → All (λ (row : Service). IsOwn f row.number) (step_of l f e.0 e.1).flat.services
services_once l f e s ok =
    let law = gives_leaving l f e s ok in
    let before = before_leaving l f e in
    let all = All-append (IsOwn f) (numbers f.services) (created f e.1 (step_of l f e.0 e.1).answer) (stood_own f)
    (made_own f e.1 (step_of l f e.0 e.1).answer) in
    All-filter _ (λ (row : Service). IsOwn f row.number) before.services
    (each_number (IsOwn f) (λ (row : Service). row.number) before.services (subst (λ ns. All (IsOwn f) ns) (sym law.stood) all))

-- ## Rows that become due

abbrev IsOld : Flat → Due → Type 0
IsOld f row = Contains f.dues row ⊎ (f.next.due ≤ row.number)

old_dues : (f : Flat) → All (IsOld f) f.dues
old_dues f = All-weaker (Contains f.dues) (IsOld f) (λ row has. inl has) f.dues (All-contains_itself f.dues)

-- so is each with the next number
abbrev AreOld : Flat → Flat → Type 0
AreOld f g = (f.next.due ≤ g.next.due) × All (IsOld f) g.dues

beside_old : (f : Flat) (kind : DueKind) (rows : List Due) → All (IsOld f) rows → All (IsOld f) (beside kind rows)
beside_old f (dues.Deadline plan) rows all = all
beside_old f (dues.Start service) rows all = All-filter (λ (due : Due). not (is_due_of service due.kind)) (IsOld f) rows all
beside_old f (dues.Command service) rows all = All-filter (λ (due : Due). not (is_due_of service due.kind)) (IsOld f) rows all
beside_old f (dues.Reboot service) rows all = All-filter (λ (due : Due). not (is_due_of service due.kind)) (IsOld f) rows all

old_push : (f g : Flat) (moment : ℕ) (kind : DueKind) → AreOld f g → AreOld f (with_due g moment kind)
old_push f g moment kind old = (
  (let up = old.0 in omega (arith, up)),
  All-push (IsOld f) (beside kind g.dues) _
      (beside_old f kind g.dues old.1) (inr old.0),
)

failing_old : (f : Flat) (found : Option Service) (g : Flat) → AreOld f g → AreOld f (if_found with_failure found g)
failing_old f found g old = failing_keeps (AreOld f) found g old (λ row is. old)
    (λ service h moment kind is more. old_push f h moment kind more)

all_failing_old : (f : Flat) (rows : List Service) (g : Flat) → AreOld f g → AreOld f (all_failed rows g)
all_failing_old f rows g old = any_failing_keeps (AreOld f) rows g old (λ row h more. more)
    (λ service h moment kind is more. old_push f h moment kind more)

-- a start brings its deadline
start_old : (f g : Flat) (row : Service) → AreOld f g → AreOld f (with_start 0 [] row g)
start_old f g row old = ((let up = old.0 in omega (arith, up)), All-push (IsOld f) g.dues _ old.1 (inr old.0))

done_dues : (l : Limits) (f : Flat) (caller : ℕ) (asked : Request) → All (IsOld f) (done_of l f caller asked).flat.dues
done_dues l f caller (request.OpenService handle name access) = opened_keeps (λ (g : Flat). All (IsOld f) g.dues) f caller name access
    (old_dues f) (λ row is. old_dues f)
done_dues l f caller (request.Start handle words) =
    started_keeps (λ (g : Flat). All (IsOld f) g.dues) f caller handle words (old_dues f)
    (λ row is. All-push (IsOld f) f.dues _ (old_dues f) (inr (omega arith)))
done_dues l f caller (request.SetStatus handle status) = (failing_old f (failed_by status (held_service f caller handle)) _
    (omega arith, old_dues f)).1
done_dues l f caller (request.Notify handle mask) = notify_apart (λ (g : Flat). All (IsOld f) g.dues) f caller handle mask
    (λ rows next. old_dues f)
done_dues l f caller asked = old_dues f

call_dues : (l : Limits) (f : Flat) (caller : ℕ) (asked : Request) (append : Kept)
    → All (IsOld f) (call_of l f caller asked append).flat.dues
call_dues l f caller asked append =
    by_verdict (λ r. All (IsOld f) r.flat.dues) (verdict l f caller asked append)
    (told_refused f caller asked (verdict l f caller asked append)) f (done_of l f caller asked)
    (λ e. done_dues l f caller asked) (λ e. old_dues f)

effect_dues : (l : Limits) (f : Flat) (moment : ℕ) (step : Step) → All (IsOld f) (effect_of l (at_moment f moment step) step).flat.dues
effect_dues l f moment (Call caller asked append) = call_dues l (with_moment f moment) caller asked append
effect_dues l f moment (Report process service status) = (failing_old f (failed_by status (reporting f process service)) _
    (omega arith, old_dues f)).1
effect_dues l f moment (Ended process) = (all_failing_old f (currents process f.services)
    (with_fallen (with_moment f moment) process ERROR_PROCESS_ABORTED) (omega arith, old_dues f)).1
effect_dues l f moment Tick = (ticked_by (AreOld f) l (record {
  spends = λ g row is old. (old.0, All-filter (λ (due : Due). not (due.number == row.number)) (IsOld f) g.dues old.1);
  starts = λ g row there can old. start_old f g row old;
  runs = λ g row there can old. old;
  reboots = λ g old. old;
}) (with_moment f moment) (omega arith, old_dues f)).1
effect_dues l f moment (Raised caller subtype) =
    (raised_by (AreOld f) l subtype (record {
      starts = λ g row there can old. start_old f g row old;
      stops = λ g row action there is stops gets old. old;
    }) (with_moment f moment) caller (omega arith, old_dues f)).1
effect_dues l f moment step = old_dues f

dues_once : (l : Limits) (f : Flat) (moment : ℕ) (step : Step) → All (IsOld f) (finished_step l f moment step).flat.dues
dues_once l f moment step =
    let done = effect_of l (at_moment f moment step) step in
    let still = λ (due : Due). is_due_still (settled l done.flat).plans due.kind in
    finished_keeps (λ (g : Flat). All (IsOld f) g.dues) (λ g plans once. once) (settled l done.flat) done.answer
    (subst (λ (rows : List Due). All (IsOld f) rows) (sym (settled_dues l done.flat))
    (All-filter still (IsOld f) done.flat.dues (effect_dues l f moment step)))

-- ## Registrations

abbrev IsWatching : Flat → Registration → Type 0
IsWatching f row = HasWatched f row ⊎ (f.next.registration ≤ row.number)

-- a change that leaves the number
watching_still : (f : Flat) (old new : Registration) → new.number ≡ old.number → IsWatching f old → IsWatching f new
watching_still f old new same is = subst (λ n. (is_in_rows (λ (row : Registration). row.number) n f.registrations ≡ true)
    ⊎ (f.next.registration ≤ n)) (sym same) is

registrations_stand : (f : Flat) (step : Step) → Stands (All (IsWatching f)) f step
registrations_stand f step =
    let was : All (IsWatching f) f.registrations =
    All-weaker (HasWatched f) (IsWatching f) (λ row has. inl has) f.registrations
    (has_own (λ (row : Registration). row.number) f.registrations) in
    record {
      tells = λ event rows proper all. All-map (IsWatching f) (notified event) rows
          (λ k d lt. watching_still f (get_or rows k d) (notified event (get_or rows k d))
          (notified_or (λ new. new.number ≡ (get_or rows k d).number) event (get_or rows k d) (λ e. refl) refl) (all k d lt));
      was = λ quiet. was;
      comes = λ caller handle mask append of e is. all_put (IsWatching f) (watching_row f caller handle mask of) f.registrations was
          (inr (let next = made_number f caller handle mask of in omega (arith, next)));
      taken = λ caller handle number append e is. All-map (IsWatching f) (taken_once number) f.registrations
          (λ k d lt. watching_still f (get_or f.registrations k d) (taken_once number (get_or f.registrations k d))
          (taken_or (λ new. new.number ≡ (get_or f.registrations k d).number) number (get_or f.registrations k d) (λ e. refl) refl)
          (was k d lt));
      closed = λ caller handle number append e is. All-filter (λ (row : Registration). not (row.number == number))
          (IsWatching f) f.registrations was;
      gone = λ caller e. All-filter (λ (row : Registration). not (row.caller == caller)) (IsWatching f) f.registrations was;
    }

registrations_once : (l : Limits) (f : Flat) (moment : ℕ) (step : Step) → Sound f → IsTrue (may l f moment step)
    → All (IsWatching f) (step_of l f moment step).flat.registrations
registrations_once l f moment step s ok = registrations_of_step l (All (IsWatching f)) f moment step (registrations_stand f step) s ok

-- ## Steps

pub gives : (l : Limits) → Gives Sound AllAreGivenOnce l
gives l f e s ok =
    let after = keeps l f e s ok in
    let up = rises l f e.0 e.1 in
    let handles = gives_handles l f e s ok in
    record {
      services = record { numbered = after.services.numbered; rising = up.service; once = services_once l f e s ok };
      handles = record { numbered = after.handles.handles; rising = handles.rising; once = handles.once };
      registrations = record {
        numbered = after.registrations.numbered;
        rising = up.registration;
        once = registrations_once l f e.0 e.1 s ok;
      };
      dues = record { numbered = after.dues.numbered; rising = up.due; once = dues_once l f e.0 e.1 };
    }

-- ## Histories

-- a number that is there is below the next one
is_below : {A : Type 0} (number_of : A → ℕ) (n next : ℕ) (rows : List A) → All (λ row. number_of row < next) rows
    → is_in_rows number_of n rows ≡ true → n < next
is_below number_of n next rows below there = found_below number_of n next rows below (is_some-find (λ row. number_of row == n) rows ∙ there)

-- who stood has a number that was there
has_contained : {A : Type 0} (number_of : A → ℕ) (rows : List A) (row : A) → Contains rows row
    → is_in_rows number_of (number_of row) rows ≡ true
has_contained number_of rows row at = any_at (λ r. number_of r == number_of row) rows at.0 row at.1 (eq-eqb _ _ (ap number_of at.2))

not_back : {A : Type 0} (number_of : A → ℕ) (Stood : A → Type 0) (next n : ℕ) (befores : List A) (row : A)
    → (Stood row → is_in_rows number_of (number_of row) befores ≡ true) → n < next
    → is_in_rows number_of n befores ≡ false → number_of row ≡ n → Stood row ⊎ (next ≤ number_of row) → ⊥
not_back number_of Stood next n befores row there low none same (inl stood) =
    (let has = subst (λ m. is_in_rows number_of m befores ≡ true) same (there stood) in cc)
not_back number_of Stood next n befores row there low none same (inr up) = omega (arith, up, same, low)

-- a number that was given and isn't there doesn't come to be there
stays_away : {A : Type 0} (number_of : A → ℕ) (Stood : A → Type 0) (next n : ℕ) (befores rows : List A)
    → ((row : A) → Stood row → is_in_rows number_of (number_of row) befores ≡ true)
    → All (λ row. Stood row ⊎ (next ≤ number_of row)) rows → n < next → is_in_rows number_of n befores ≡ false
    → is_in_rows number_of n rows ≡ false
stays_away number_of Stood next n befores rows there once low none =
    list_any_none (λ row. number_of row == n) rows (All-weaker (λ row. Stood row ⊎ (next ≤ number_of row))
    (λ row. (number_of row == n) ≡ false)
    (λ row is. elim (number_of row == n) as (λ b. (number_of row == n) ≡ b → b ≡ false) [
      | true ↦ λ e. absurd (not_back number_of Stood next n befores row (there row) low none (eqb-true (number_of row) n e) is)
      | false ↦ λ e. refl
    ] refl) rows once)

-- a kind of rows whose numbers are given once
record IsKind (l : Limits) (is_there : ℕ → Flat → Bool) (next : Flat → ℕ) : Type 0 where
  below : (f : Flat) (n : ℕ) → Sound f → is_there n f ≡ true → n < next f
  rising : (f : Flat) (e : Entry) → Sound f → IsTrue (may l f e.0 e.1) → next f ≤ next (step_of l f e.0 e.1).flat
  away : (f : Flat) (e : Entry) (n : ℕ) → Sound f → IsTrue (may l f e.0 e.1) → n < next f → is_there n f ≡ false
      → is_there n (step_of l f e.0 e.1).flat ≡ false

away_for_good : (l : Limits) (is_there : ℕ → Flat → Bool) (next : Flat → ℕ) → IsKind l is_there next → (f : Flat) (n : ℕ) (es : List Entry)
    → Sound f → IsLegal l f es → n < next f → is_there n f ≡ false
    → is_there n (run_state l f es) ≡ false
away_for_good l is_there next kind f n [] s legal low none = none
away_for_good l is_there next kind f n (e ∷ es) s legal low none =
    away_for_good l is_there next kind (step_of l f e.0 e.1).flat n es (keeps l f e s legal.0) legal.1
    (let up = kind.rising f e s legal.0 in omega (arith, up, low)) (kind.away f e n s legal.0 low none)

away_behind : (l : Limits) (is_there : ℕ → Flat → Bool) (next : Flat → ℕ) → IsKind l is_there next
    → (f : Flat) (n : ℕ) (front : List Entry) (e : Entry) (rest : List Entry) → Sound f → IsLegal l f (front ++ e ∷ rest)
    → is_there n (run_state l f front) ≡ true → is_there n (run_state l f (front ++ e ∷ [])) ≡ false
    → is_there n (run_state l f (front ++ e ∷ rest)) ≡ false
away_behind l is_there next kind f n [] e rest s legal there none =
    away_for_good l is_there next kind (step_of l f e.0 e.1).flat n rest (keeps l f e s legal.0) legal.1
    (let low = kind.below f n s there in let up = kind.rising f e s legal.0 in omega (arith, low, up)) none
away_behind l is_there next kind f n (first ∷ front) e rest s legal there none =
    away_behind l is_there next kind (step_of l f first.0 first.1).flat n front e rest (keeps l f first s legal.0) legal.1 there none

never_again : (l : Limits) (is_there : ℕ → Flat → Bool) (next : Flat → ℕ) → IsKind l is_there next → (f : Flat) (es : List Entry) → Sound f
    → IsLegal l f es → IsNeverAgain is_there l f es
unfolding state
never_again l is_there next kind f es s legal n front e rest split there none =
    subst (λ all. is_there n (run_state l f all) ≡ false) (sym split) (away_behind l is_there next kind f n front e rest s
    (subst (IsLegal l f) split legal) there none)

of_callers : (l : Limits) → IsKind l (λ number g. is_caller g number) (λ (g : Flat). g.next.caller)
of_callers l = record {
  below = λ f n s there. found_below (λ (row : Caller). row.number) n f.next.caller f.callers s.handles.callers.below there;
  rising = λ f e s ok. rising l f e.0 e.1;
  away = λ f e n s ok low none. stays_out l f e.0 e.1 n low none;
}

of_processes : (l : Limits) → IsKind l (λ number g. is_some (process_of g number)) (λ (g : Flat). g.next.process)
of_processes l = record {
  below = λ f n s there. found_below (λ (row : Process). row.number) n f.next.process f.processes s.processes.numbered.below there;
  rising = λ f e s ok. process_rises l f e.0 e.1;
  away = λ f e n s ok low none. ap is_some (after_effect l f e.0 e.1 n low) ∙ none_effect l f e.0 e.1 n low none;
}

of_plans : (l : Limits) → IsKind l (λ number g. is_some (plan_of g.plans number)) (λ (g : Flat). g.next.plan)
of_plans l = record {
  below = λ f n s there. plan_below f n s there;
  rising = λ f e s ok. plan_rises l f e.0 e.1;
  away = λ f e n s ok low none. stays_none l f e.0 e.1 n low none;
}

of_services : (l : Limits) → IsKind l (λ number g. is_in_rows (λ (row : Service). row.number) number g.services)
    (λ (g : Flat). g.next.service)
of_services l = record {
  below = λ f n s there. is_below (λ (row : Service). row.number) n f.next.service f.services s.services.numbered.below there;
  rising = λ f e s ok. (gives l f e s ok).services.rising;
  away = λ f e n s ok low none. stays_away (λ (row : Service). row.number) (HasStood f) f.next.service n f.services _ (λ row stood. stood)
      (gives l f e s ok).services.once low none;
}

of_handles : (l : Limits) → IsKind l (λ number g. is_in_rows (λ (row : HandleRow). row.number) number g.handles)
    (λ (g : Flat). g.next.handle)
of_handles l = record {
  below = λ f n s there. is_below (λ (row : HandleRow). row.number) n f.next.handle f.handles s.handles.handles.below there;
  rising = λ f e s ok. (gives l f e s ok).handles.rising;
  away = λ f e n s ok low none. stays_away (λ (row : HandleRow). row.number) (Contains f.handles) f.next.handle n f.handles _
      (has_contained (λ (row : HandleRow). row.number) f.handles)
      (gives l f e s ok).handles.once low none;
}

of_registrations : (l : Limits) → IsKind l (λ number g. is_in_rows (λ (row : Registration). row.number) number g.registrations)
    (λ (g : Flat). g.next.registration)
of_registrations l = record {
  below = λ f n s there. is_below (λ (row : Registration). row.number) n f.next.registration f.registrations
      s.registrations.numbered.below there;
  rising = λ f e s ok. (gives l f e s ok).registrations.rising;
  away = λ f e n s ok low none. stays_away (λ (row : Registration). row.number) (HasWatched f) f.next.registration n f.registrations _
      (λ row stood. stood) (gives l f e s ok).registrations.once low none;
}

of_dues : (l : Limits) → IsKind l (λ number g. is_in_rows (λ (row : Due). row.number) number g.dues) (λ (g : Flat). g.next.due)
of_dues l = record {
  below = λ f n s there. is_below (λ (row : Due). row.number) n f.next.due f.dues s.dues.numbered.below there;
  rising = λ f e s ok. (gives l f e s ok).dues.rising;
  away = λ f e n s ok low none. stays_away (λ (row : Due). row.number) (Contains f.dues) f.next.due n f.dues _
      (has_contained (λ (row : Due). row.number) f.dues)
      (gives l f e s ok).dues.once low none;
}

pub none_again : (l : Limits) (f : Flat) (es : List Entry) → Sound f → IsLegal l f es → NoneIsGivenAgain l f es
none_again l f es s legal = record {
  callers = never_again l _ _ (of_callers l) f es s legal;
  processes = never_again l _ _ (of_processes l) f es s legal;
  plans = never_again l _ _ (of_plans l) f es s legal;
  services = never_again l _ _ (of_services l) f es s legal;
  handles = never_again l _ _ (of_handles l) f es s legal;
  registrations = never_again l _ _ (of_registrations l) f es s legal;
  dues = never_again l _ _ (of_dues l) f es s legal;
}
