-- The effect of a step notifies the registrations that it finds.
use Rattle.std.proofs.Common.{ℕ, ◌≡◌, ◌∙◌, ◌<◌, ◌==◌, ◌&&◌, ◌||◌, not, true, false, cond, IsTrue, List, [], ◌∷◌, ◌++◌, Option}
use Rattle.std.proofs.Common.{None, Some, filter, find, get_or, map, ap, sym, refl, subst, eq-eqb, ne_eqb, arith}
use Rattle.std.specs.Prelude.{All, Contains, unwrap_or}
use Rattle.std.proofs.lemmas.List.Elements.{All-cons, All-nil, All-weaker}
use Rattle.std.proofs.lemmas.List.Folds.{list_any_none}
use Rattle.scm_model.specs.Changes.{configured_if, marked_if, new_service, with_moment}
use Rattle.scm_model.specs.Found.{if_found}
use Rattle.scm_model.specs.Notices.{Event, event_of_mark, event_of_state, noted, notified, pid_in, pid_of, notified_of_move}
use Rattle.scm_model.specs.Rows.{held_service, service_of}
use Rattle.scm_model.specs.declared.calls.Request.{Request}
use Rattle.scm_model.specs.declared.calls.Request.TheVariants as request
use Rattle.scm_model.specs.declared.flat.Config.{Config}
use Rattle.scm_model.specs.declared.flat.Flat.{Flat}
use Rattle.scm_model.specs.declared.flat.Limits.{Limits}
use Rattle.scm_model.specs.declared.flat.Process.{Process}
use Rattle.scm_model.specs.declared.flat.Registration.{Registration}
use Rattle.scm_model.specs.declared.flat.Service.{Service}
use Rattle.scm_model.specs.declared.flat.Status.{Status}
use Rattle.scm_model.specs.declared.flat.Wanted.{Wanted}
use Rattle.scm_model.specs.declared.steps.Kept.{Kept}
use Rattle.scm_model.specs.declared.steps.Step.{Step}
use Rattle.scm_model.specs.declared.steps.Step.TheVariants.{Call, ControlTaken, Ended, Gone, LaunchFailed, Report, Raised, Tick}
use Rattle.scm_rules.specs.Change.{configured_in, new_config}
use Rattle.scm_rules.specs.Change2.{level_config}
use Rattle.scm_rules.specs.Create.{create_done, created_config, new_status}
use Rattle.scm_rules.specs.Delete.{delete_refusals, is_marked, marked_in, told_of_mark}
use Rattle.scm_rules.specs.Failures.{all_failed, counted_if, failed_by, with_failure}
use Rattle.scm_rules.specs.OpenService.{open_service_rights, with_opened}
use Rattle.scm_rules.specs.Start.{with_start}
use Rattle.scm_rules.specs.Controls.{dequeued_if, dequeued_in, first_asked, unasked_if, unasked_in}
use Rattle.scm_rules.specs.Launches.{currents, fallen, fallen_if, launch_failed, notified_of_falls, with_fallen}
use Rattle.scm_rules.specs.Ends.{process_ended}
use Rattle.scm_rules.specs.Reports.{is_reporter, is_stopped_by, notified_of_report, released_by, released_if, reported_if, reporting}
use Rattle.scm_rules.specs.Reports.{with_report_of}
use Rattle.scm_model.specs.declared.flat.Order.{Order}
use Rattle.scm_rules.specs.Steps.{at_moment, effect_of, may}
use Rattle.scm_rules.specs.Verdicts.{call_of, done_of, told_refused, verdict}
use Rattle.scm_rules.proofs.Held.{held_is}
use Rattle.scm_runs.proofs.Calls.{all_pass, by_verdict}
use Rattle.scm_runs.proofs.Configured.{number_kept}
use Rattle.scm_runs.proofs.Failing.{all_failing_as, counted_as, failing_as, failure_keeps}
use Rattle.scm_runs.proofs.Founds.{found_all, opened_keeps, secured_keeps, started_keeps}
use Rattle.scm_runs.proofs.Lists.{map_both}
use Rattle.scm_runs.proofs.Rows.{reported_or, unasked_or}
use Rattle.scm_runs.proofs.Sound.{Sound, moved}
use Rattle.scm_runs.proofs.Unasked.{begun_by, raised_apart, ticked_apart}
use Rattle.scm_rules.specs.Raise.{raised}
use Rattle.scm_rules.specs.Ticks.{ticked}
use Rattle.scm_moves.proofs.Own.{fallen_number, reported_number}
use Rattle.scm_history.specs.Once.{has_service}
use Rattle.scm_notices.specs.Events.{Notifies, changes_registrations, events_of_change, has_moved, is_about_registrations, notified_first}
use Rattle.scm_notices.specs.Events.{was_marked}
use Rattle.scm_notices.proofs.Own.{is_there, mark_kept, row_of, some_number, state_kept}
use Rattle.scm_notices.proofs.Falls.{FallsBy, notified_fall, notified_of_fallen, one_by_move}
use Rattle.scm_notices.proofs.Firsts.{maps_nothing, maps_same, one_by_one}
use Rattle.scm_notices.proofs.Between.{IsQuiet, OneChanges, notified_of_none, notified_of_nothing, notified_of_one, unmoved}
use Rattle.scm_notices.proofs.Coming.{notified_of_arrival}
use Rattle.scm_rules.specs.Security.{asked_security, descriptor_in, secured_if}
use Rattle.scm_rules.proofs.Secured.{secured_or}

-- ## A failure is counted behind a change

abbrev counted_in : Option Service → ℕ → Service → Service
counted_in None moment row = row
counted_in (Some failed) moment row = counted_if failed.number moment row

counts_or : (P : Service → Type 0) (found : Option Service) (moment : ℕ) (row : Service) → P row
    → ((failures last : ℕ) → P (record row { failures = failures; last_failure = last })) → P (counted_in found moment row)
counts_or P None moment row p any = p
counts_or P (Some failed) moment row p any =
    let new = counted_if failed.number moment row in
    subst P (sym (counted_as failed.number moment row)) (any new.failures new.last_failure)

services_counted : (found : Option Service) (g : Flat)
    → (if_found with_failure found g).services ≡ map (counted_in found g.moment) g.services
services_counted None g = sym (maps_nothing (λ (row : Service). row) (λ row. refl) g.services)
services_counted (Some row) g =
    failure_keeps (λ (h : Flat). h.services ≡ map (counted_if row.number g.moment) g.services) row g refl (λ h moment kind is same. same)

fails_after : (f g : Flat) (change : Service → Service) (row : Service) (told : List Event) (found : Option Service)
    → OneChanges f g change row told
    → OneChanges f (if_found with_failure found g) (λ other. counted_in found g.moment (change other)) row told
fails_after f g change row told found one = record {
  numbers = λ other. counts_or (λ new. new.number ≡ other.number) found g.moment (change other) (one.numbers other)
      (λ failures last. one.numbers other);
  services = services_counted found g ∙ ap (map (counted_in found g.moment)) one.services
      ∙ map_both (counted_in found g.moment) change f.services;
  found = one.found;
  some = one.some;
  others = All-weaker (λ (other : Service). (other.number == row.number) ≡ false → IsQuiet other (change other))
      (λ (other : Service). (other.number == row.number) ≡ false → IsQuiet other (counted_in found g.moment (change other)))
      (λ other quiet apart. counts_or (IsQuiet other) found g.moment (change other) (quiet apart) (λ failures last. quiet apart))
      f.services one.others;
  events =
      ap (λ (h : Flat). events_of_change h.processes row (counted_in found g.moment (change row))) (failing_as found g)
      ∙ counts_or (λ new. events_of_change g.processes row new ≡ told) found g.moment (change row) one.events (λ failures last. one.events);
  own = one.own;
  registrations = ap (λ (h : Flat). h.registrations) (failing_as found g) ∙ one.registrations;
}

-- ## Failures of several services

abbrev counted_all : List Service → ℕ → Service → Service
counted_all [] moment row = row
counted_all (failed ∷ rows) moment row = counted_all rows moment (counted_if failed.number moment row)

all_counts_or : (P : Service → Type 0) (rows : List Service) (moment : ℕ) (row : Service)
    → ((failures last : ℕ) → P (record row { failures = failures; last_failure = last })) → P (counted_all rows moment row)
all_counts_or P [] moment row any = any row.failures row.last_failure
all_counts_or P (failed ∷ rows) moment row any =
    all_counts_or P rows moment (counted_if failed.number moment row)
    (λ failures last. subst (λ (r : Service). P (record r { failures = failures; last_failure = last }))
    (sym (counted_as failed.number moment row)) (any failures last))

all_services : (rows : List Service) (g : Flat) → (all_failed rows g).services ≡ map (counted_all rows g.moment) g.services
all_services [] g = sym (maps_nothing (λ (row : Service). row) (λ row. refl) g.services)
all_services (failed ∷ rows) g =
    all_services rows (with_failure failed g)
    ∙ ap (λ m. map (counted_all rows m) (with_failure failed g).services) (ap (λ (h : Flat). h.moment) (failing_as (Some failed) g))
    ∙ ap (map (counted_all rows g.moment)) (services_counted (Some failed) g)
    ∙ map_both (counted_all rows g.moment) (counted_if failed.number g.moment) g.services

-- ## One service

own_events : (processes : List Process) (old new : Service)
    → All (λ (event : Event). event.service ≡ new.number) (events_of_change processes old new)
own_events processes old new =
    elim (has_moved old new) as (λ m. All IsIts
    (cond m (event_of_state (pid_of processes new) new ∷ []) [] ++ cond (was_marked old new)
    (event_of_mark (pid_of processes new) new ∷ []) [])) [
      | true ↦ elim (was_marked old new) as
          (λ m. All IsIts ((event_of_state (pid_of processes new) new ∷ []) ++ cond m (event_of_mark (pid_of processes new) new ∷ []) [])) [
            | true ↦ All-cons IsIts (event_of_state (pid_of processes new) new) (event_of_mark (pid_of processes new) new ∷ []) refl
                (one (event_of_mark (pid_of processes new) new) refl)
            | false ↦ one (event_of_state (pid_of processes new) new) refl
          ]
      | false ↦ elim (was_marked old new) as (λ m. All IsIts (cond m (event_of_mark (pid_of processes new) new ∷ []) [])) [
        | true ↦ one (event_of_mark (pid_of processes new) new) refl
        | false ↦ All-nil IsIts
      ]
    ]
  where
    IsIts : Event → Type 0
    IsIts event = event.service ≡ new.number

    one : (event : Event) → IsIts event → All IsIts (event ∷ [])
    one event is = All-cons IsIts event [] is (All-nil IsIts)

-- a move to another state is the one event of a service that isn't marked meanwhile
told_by_move : (processes : List Process) (pid : ℕ) (old new : Service) (rows : List Registration) → pid_of processes new ≡ pid
    → new.marked ≡ old.marked
    → notified_of_move pid old new rows ≡ map (notified_first (events_of_change processes old new)) rows
told_by_move processes pid old new rows same mark =
    let unmarked : was_marked old new ≡ false = ap (λ m. not old.marked && m) mark ∙ (unmoved old).1 in
    elim (old.status.state == new.status.state) as (λ b. cond b rows (noted (event_of_state pid new) rows)
    ≡ map (notified_first (cond (not b) (event_of_state (pid_of processes new) new ∷ []) [] ++ cond (was_marked old new)
    (event_of_mark (pid_of processes new) new ∷ []) [])) rows) [
      | true ↦ rw unmarked (sym (maps_nothing (notified_first []) (λ r. refl) rows))
      | false ↦ rw (unmarked, same) (maps_same (notified (event_of_state pid new)) (notified_first (event_of_state pid new ∷ []))
          (λ r. sym (one_by_one (event_of_state pid new) [] r)) rows)
    ]

-- one service moves, and no other
moves_alone : (f g : Flat) (row : Service) (pid : ℕ) (change : Service → Service) → Sound f → Contains f.services row
    → ((other : Service) → (change other).number ≡ other.number)
    → ((other : Service) → (other.number == row.number) ≡ false → change other ≡ other)
    → (change row).marked ≡ row.marked → pid_of g.processes (change row) ≡ pid
    → g.services ≡ map change f.services → g.registrations ≡ notified_of_move pid row (change row) f.registrations
    → OneChanges f g change row (events_of_change g.processes row (change row))
moves_alone f g row pid change s there numbers others mark same services told = record {
  numbers = numbers;
  services = services;
  found = row_of f row s there;
  some = some_number f row s there;
  others = λ k d lt apart. subst (IsQuiet (get_or f.services k d)) (sym (others (get_or f.services k d) apart))
      (unmoved (get_or f.services k d));
  events = refl;
  own = All-weaker (λ (event : Event). event.service ≡ (change row).number) (λ (event : Event). event.service ≡ row.number)
      (λ event is. is ∙ numbers row)
      (events_of_change g.processes row (change row)) (own_events g.processes row (change row));
  registrations = told ∙ told_by_move g.processes pid row (change row) f.registrations same mark;
}

-- ## Reports

reported_mark : (number : ℕ) (report : Status) (row : Service) → (reported_if number report row).marked ≡ row.marked
reported_mark number report row = reported_or (λ new. new.marked ≡ row.marked) number report row (λ e t. refl) refl

-- a report leaves the system's numbers of processes
released_pid : (process service n : ℕ) (rows : List Process)
    → pid_in (find (λ (p : Process). p.number == n) (map (released_if process service) rows)) ≡ pid_in
    (find (λ (p : Process). p.number == n) rows)
released_pid process service n [] = refl
released_pid process service n (row ∷ rows) =
    let new = record row { controls = filter (λ (order : Order). not (order.service == service)) row.controls } in
    let rest = find (λ (p : Process). p.number == n) (map (released_if process service) rows) in
    elim (row.number == process && row.shared) as (λ b. pid_in (cond ((cond b new row).number == n) (Some (cond b new row)) rest)
    ≡ pid_in (cond (row.number == n) (Some row) (find (λ (p : Process). p.number == n) rows))) [
      | true ↦ elim (row.number == n) as (λ b. pid_in (cond b (Some new) rest)
          ≡ pid_in (cond b (Some row) (find (λ (p : Process). p.number == n) rows)))
          [ true ↦ refl | false ↦ released_pid process service n rows ]
      | false ↦ elim (row.number == n) as (λ b. pid_in (cond b (Some row) rest)
          ≡ pid_in (cond b (Some row) (find (λ (p : Process). p.number == n) rows)))
          [ true ↦ refl | false ↦ released_pid process service n rows ]
    ]

pid_released : (report : Status) (row new : Service) (rows : List Process) → pid_of (released_by report row rows) new ≡ pid_of rows new
pid_released report row new rows =
    elim (is_stopped_by report row) as (λ b. pid_of (cond b (map (released_if row.process row.number) rows) rows) new ≡ pid_of rows new) [
      | true ↦ ap (λ pid. cond (new.process == 0) 0 pid) (released_pid row.process row.number new.process rows)
      | false ↦ refl
    ]

-- a service that is there takes a report
takes_report : (f : Flat) (row : Service) (report : Status) (failed : Option Service) → Sound f → Contains f.services row
    → Notifies f (if_found with_failure failed
    (record f {
      services = map (reported_if row.number report) f.services;
      processes = released_by report row f.processes;
      registrations = notified_of_report f.processes report (Some row) f.registrations;
    }))
takes_report f row report failed s there =
    let new = reported_if row.number report row in
    let g = record f {
      services = map (reported_if row.number report) f.services;
      processes = released_by report row f.processes;
      registrations = notified_of_report f.processes report (Some row) f.registrations;
    } in
    notified_of_one f (if_found with_failure failed g) _ row _
    (fails_after f g (reported_if row.number report) row (events_of_change g.processes row new) failed
    (moves_alone f g row (pid_of f.processes new) (reported_if row.number report) s there
    (reported_number row.number report) (λ other away. rw away refl)
    (reported_mark row.number report row) (pid_released report row new f.processes) refl refl))

of_report : (f : Flat) (report : Status) (found : Option Service) → Sound f
    → ((row : Service) → found ≡ Some row → Contains f.services row)
    → Notifies f (with_report_of f found report)
of_report f report None s there = notified_of_nothing f f refl refl
of_report f report (Some row) s there = takes_report f row report (failed_by report (Some row)) s (there row refl)

-- ## Falls

without_pid : (processes : List Process) (row : Service) → row.process ≡ 0 → pid_of processes row ≡ 0
without_pid processes row none =
    ap (λ b. cond b 0 (pid_in (find (λ (process : Process). process.number == row.process) processes))) (eq-eqb row.process 0 none)

-- a service falls, or is as it was, and failures are counted
falls_by : (processes : List Process) (failing : List Service) (moment process code : ℕ) (row : Service)
    → FallsBy processes process code (λ other. counted_all failing moment (fallen_if process code other)) row
falls_by processes failing moment process code row = record {
  falls = λ by r.
      subst (λ (mid : Service). notified_fall code row r ≡ notified_first
      (events_of_change processes row (counted_all failing moment mid)) r)
      (sym (ap (λ b. cond b (fallen code row) row) by))
      (all_counts_or (λ new. notified_fall code row r ≡ notified_first (events_of_change processes row new) r) failing moment
      (fallen code row)
      (λ failures last. (let new = record (fallen code row) { failures = failures; last_failure = last } in
      one_by_move processes 0 row new r (without_pid processes new refl) refl)));
  stays = λ out.
      subst (λ (mid : Service). IsQuiet row (counted_all failing moment mid)) (sym (ap (λ b. cond b (fallen code row) row) out))
      (all_counts_or (IsQuiet row) failing moment row (λ failures last. unmoved row));
}

-- services fall, which may be failures, and their process leaves
of_fall : (f : Flat) (process code : ℕ) (failing : List Service) (g : Flat) (processes : List Process) (wanted : List Wanted) → Sound f
    → g.services ≡ map (fallen_if process code) f.services
    → g.registrations ≡ notified_of_falls code (currents process f.services) f.registrations
    → Notifies f (record (all_failed failing g) { processes = processes; wanted = wanted })
of_fall f process code failing g processes wanted s services told =
    notified_of_fallen f (record (all_failed failing g) { processes = processes; wanted = wanted }) process code
    (λ row. counted_all failing g.moment (fallen_if process code row)) s
    (λ row. all_counts_or (λ new. new.number ≡ row.number) failing g.moment (fallen_if process code row)
    (λ failures last. fallen_number process code row))
    (all_services failing g ∙ ap (map (counted_all failing g.moment)) services
    ∙ map_both (counted_all failing g.moment) (fallen_if process code) f.services)
    (λ k d lt. falls_by processes failing g.moment process code (get_or f.services k d))
    (ap (λ (h : Flat). h.registrations) (all_failing_as failing g) ∙ told)

-- ## Marks, and configurations

marks_one : (f : Flat) (row : Service) → Sound f → service_of f row.number ≡ Some row → row.marked ≡ false
    → Notifies f (record f {
      services = map (marked_if row.number) f.services;
      registrations = noted
          (event_of_mark (pid_of f.processes row) row) f.registrations;
    })
marks_one f row s found unmarked =
    let there = is_there (λ (r : Service). r.number == row.number) row f.services found in
    let event = event_of_mark (pid_of f.processes row) row in
    let own = eq-eqb row.number row.number refl in
    let g = record f { services = map (marked_if row.number) f.services; registrations = noted event f.registrations } in
    notified_of_one f g (marked_if row.number) row (event ∷ []) (record {
      numbers = λ other. refl;
      services = refl;
      found = found;
      some = some_number f row s there;
      others = λ k d lt apart. (let other = get_or f.services k d in
          ((unmoved other).0, rw apart (elim other.marked as (λ m. (not m && (m || false)) ≡ false) [ true ↦ refl | false ↦ refl ])));
      events = rw (own, unmarked, (unmoved row).0) refl;
      own = All-cons (λ (e : Event). e.service ≡ row.number) event [] refl (All-nil (λ (e : Event). e.service ≡ row.number));
      registrations = maps_same (notified event) (notified_first (event ∷ [])) (λ r. sym (one_by_one event [] r)) f.registrations;
    })

configures_one : (f : Flat) (row : Service) (config : Config)
    → Notifies f (record f { services = map (configured_if row.number config) f.services })
configures_one f row config =
    notified_of_none f (record f { services = map (configured_if row.number config) f.services }) (configured_if row.number config)
    (number_kept row.number config) refl
    (λ k d lt. (let other = get_or f.services k d in (
      ap not (ap (λ n. other.status.state == n) (state_kept row.number config other))
          ∙ (unmoved other).0,
      ap (λ m. not other.marked && m) (mark_kept row.number config other) ∙ (unmoved other).1,
    ))) refl

secures_one : (f : Flat) (number : ℕ) (security : List ℕ)
    → Notifies f (record f { services = map (secured_if number security) f.services })
secures_one f number security =
    notified_of_none f (record f { services = map (secured_if number security) f.services }) (secured_if number security)
    (λ other. secured_or (λ new. new.number ≡ other.number) number security other refl refl) refl
    (λ k d lt. secured_or (IsQuiet (get_or f.services k d)) number security (get_or f.services k d) (unmoved (get_or f.services k d))
    (unmoved (get_or f.services k d))) refl

-- ## Creations

-- the next number is nobody's
next_fresh : (f : Flat) → Sound f → All (λ (row : Service). (row.number == f.next.service) ≡ false) f.services
next_fresh f s =
    All-weaker (λ (row : Service). row.number < f.next.service) (λ (row : Service). (row.number == f.next.service) ≡ false)
    (λ row low. ne_eqb row.number f.next.service (λ same. absurd (omega (arith, same, low)))) f.services s.services.numbered.below

not_there : (f : Flat) (n : ℕ) → All (λ (row : Service). (row.number == n) ≡ false) f.services → has_service n f ≡ false
not_there f n none = list_any_none (λ (row : Service). row.number == n) f.services none

-- ## Calls

of_done : (l : Limits) (f : Flat) (caller : ℕ) (asked : Request) (append : Kept) → Sound f
    → is_about_registrations asked ≡ false → verdict l f caller asked append ≡ 0
    → Notifies f (done_of l f caller asked).flat
of_done l f caller (request.Notify handle mask) append s quiet e = absurd cc
of_done l f caller (request.GetNotify handle) append s quiet e = absurd cc
of_done l f caller (request.CloseNotify handle) append s quiet e = absurd cc
of_done l f caller (request.Delete handle) append s quiet e =
    found_all (λ found. Notifies f (record f
    { services = marked_in found f.services; registrations = told_of_mark f.processes found f.registrations }))
    (held_service f caller handle)
    (notified_of_nothing f f refl refl)
    (λ row is. marks_one f row s (held_is f caller handle row is)
    (ap is_marked (sym is) ∙ (all_pass (delete_refusals f caller handle append) (refl, (refl, (refl, (refl, tt)))) e).1.1.0))
of_done l f caller (request.SetStatus handle status) append s quiet e =
    of_report f status (held_service f caller handle) s
    (λ row is. is_there (λ (r : Service). r.number == row.number) row f.services (held_is f caller handle row is))
of_done l f caller (request.Change change) append s quiet e =
    found_all (λ found. Notifies f (record f { services = configured_in (new_config f change) found f.services }))
    (held_service f caller change.handle)
    (notified_of_nothing f f refl refl) (λ row is. configures_one f row (new_config f change row))
of_done l f caller (request.Change2 handle level) append s quiet e =
    found_all (λ found. Notifies f (record f { services = configured_in (level_config level) found f.services }))
    (held_service f caller handle)
    (notified_of_nothing f f refl refl) (λ row is. configures_one f row (level_config level row))
of_done l f caller (request.SetSecurity handle parts bytes) append s quiet e =
    secured_keeps (λ rows. Notifies f (record f { services = rows })) (held_service f caller handle)
    (asked_security f caller handle parts (descriptor_in bytes)) f.services (notified_of_nothing f f refl refl)
    (λ row security is. secures_one f row.number security)
of_done l f caller (request.Create new) append s quiet e =
    notified_of_arrival f (create_done f caller new).flat (new_service f.next.service (created_config f new) (new_status new.kind)) refl
    (not_there f f.next.service (next_fresh f s)) refl
of_done l f caller (request.OpenService handle name access) append s quiet e =
    opened_keeps (Notifies f) f caller name access (notified_of_nothing f f refl refl)
    (λ row is. notified_of_nothing f (with_opened caller (open_service_rights f caller name access) row f) refl refl)
of_done l f caller (request.Start handle words) append s quiet e =
    started_keeps (Notifies f) f caller handle words (notified_of_nothing f f refl refl)
    (λ row is. notified_of_nothing f (with_start caller (unwrap_or words []) row f) refl refl)
of_done l f caller asked append s quiet e = notified_of_nothing f (done_of l f caller asked).flat refl refl

of_call : (l : Limits) (f : Flat) (caller : ℕ) (asked : Request) (append : Kept) → Sound f
    → is_about_registrations asked ≡ false → Notifies f (call_of l f caller asked append).flat
of_call l f caller asked append s quiet =
    let code = verdict l f caller asked append in
    by_verdict (λ d. Notifies f d.flat) code (told_refused f caller asked code) f (done_of l f caller asked)
    (of_done l f caller asked append s quiet) (λ e. notified_of_nothing f f refl refl)

-- ## Effects

pub of_effect : (l : Limits) (f : Flat) (moment : ℕ) (step : Step) → Sound f → IsTrue (may l f moment step)
    → changes_registrations step ≡ false
    → Notifies f (effect_of l (at_moment f moment step) step).flat
of_effect l f moment (Call caller asked append) s ok quiet =
    of_call l (with_moment f moment) caller asked append (moved f moment s) quiet
of_effect l f moment (Gone caller) s ok quiet = absurd cc
of_effect l f moment (LaunchFailed process code) s ok quiet =
    let after = launch_failed (with_moment f moment) process code in
    of_fall f process code [] after after.processes after.wanted s refl refl
of_effect l f moment (Report process service report) s ok quiet =
    let g = with_moment f moment in
    of_report g report (reporting g process service) (moved f moment s)
    (λ row is. is_there (is_reporter g process service) row f.services is)
of_effect l f moment (Ended process) s ok quiet =
    let after = (process_ended (with_moment f moment) process).flat in
    of_fall f process 1067 (currents process f.services) (with_fallen (with_moment f moment) process 1067) after.processes after.wanted s
    refl
    refl
of_effect l f moment (ControlTaken process) s ok quiet =
    found_all (λ asked. Notifies f (record (with_moment f moment) {
      services = unasked_in asked f.services;
      processes = dequeued_in asked process f.processes;
    })) (first_asked f process)
    (notified_of_nothing f (record (with_moment f moment) { processes = map (dequeued_if process) f.processes }) refl refl)
    (λ row is. notified_of_none f (record (with_moment f moment) { services = map (unasked_if row.number) f.services })
    (unasked_if row.number)
    (λ other. unasked_or (λ new. new.number ≡ other.number) row.number other refl refl) refl
    (λ k d lt. unasked_or (IsQuiet (get_or f.services k d)) row.number (get_or f.services k d) (unmoved (get_or f.services k d))
    (unmoved (get_or f.services k d))) refl)
of_effect l f moment Tick s ok quiet = ticked_apart (Notifies f) l (with_moment f moment)
    (notified_of_nothing f (begun_by (with_moment f moment) (ticked l (with_moment f moment))) refl refl)
of_effect l f moment (Raised caller subtype) s ok quiet = raised_apart (Notifies f) l (with_moment f moment) caller subtype
    (notified_of_nothing f (begun_by (with_moment f moment) (raised l (with_moment f moment) caller subtype)) refl refl)
of_effect l f moment step s ok quiet = notified_of_nothing f (effect_of l (at_moment f moment step) step).flat refl refl
