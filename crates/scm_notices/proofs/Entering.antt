-- Services that are entered while plans are settled.
use Rattle.std.proofs.Common.{ℕ, ◌≡◌, ◌⊎◌, ◌∙◌, ◌<◌, ◌≤◌, ◌+◌, ◌==◌, ◌&&◌, Bool, true, false, cond, List, [], ◌∷◌, ◌++◌, Option, None, Some}
use Rattle.std.proofs.Common.{inl, inr, find, ap, sym, refl, eqb-true, eq-eqb, ne_eqb, get_or, arith}
use Rattle.std.specs.Prelude.{All, option_map}
use Rattle.std.proofs.lemmas.Bool.{cases_Bool, cases_lt}
use Rattle.std.proofs.lemmas.List.Elements.{All-head, All-map, All-push, All-tail, All-weaker}
use Rattle.scm_model.specs.Notices.{Event, event_of_state, noted, notified, pid_in, pid_of, notified_of_move}
use Rattle.scm_model.specs.Processes.{is_shared, process_of}
use Rattle.scm_model.specs.Rows.{service_of}
use Rattle.scm_model.specs.declared.flat.Flat.{Flat}
use Rattle.scm_model.specs.declared.flat.Process.{Process}
use Rattle.scm_model.specs.declared.flat.Registration.{Registration}
use Rattle.scm_model.specs.declared.flat.Service.{Service}
use Rattle.start_plan.specs.Entered.{entered_at, is_shared_by, notified_of_start, pid_for, process_for, started_if, starting_in}
use Rattle.start_plan.specs.Entered.{wanted_process, with_entered}
use Rattle.start_plan.proofs.Hosts.{IsHost, entered_keeps}
use Rattle.start_plan.proofs.Rows.{same_number, started_or}
use Rattle.scm_history.specs.Once.{has_service}
use Rattle.scm_notices.specs.Events.{Notifies, events_between, events_of_change, events_of_service, notified_between, notified_first}
use Rattle.scm_notices.specs.Events.{was_marked}
use Rattle.scm_notices.proofs.Firsts.{maps_same, maps_twice, one_by_one, other_service, same_service}
use Rattle.scm_notices.proofs.Between.{HasSame, find_changed, has_changed, nothing_of_manager, quiet_row, unmoved}
use Rattle.scm_notices.proofs.Coming.{at_manager, at_service}
use Rattle.scm_runs.proofs.Lists.{found_has, found_passes}

-- ## The number of a process

find_before : (p : Process → Bool) (rows : List Process) (new : Process) → p new ≡ false → find p (rows ++ new ∷ []) ≡ find p rows
find_before p [] new fails = rw fails refl
find_before p (row ∷ rows) new fails = ap (cond (p row) (Some row)) (find_before p rows new fails)

find_last : (p : Process → Bool) (rows : List Process) (new : Process) → All (λ (row : Process). p row ≡ false) rows → p new ≡ true
    → find p (rows ++ new ∷ []) ≡ Some new
find_last p [] new none passes = rw passes refl
find_last p (row ∷ rows) new none passes =
    rw (All-head (λ (r : Process). p r ≡ false) row rows none)
    (find_last p rows new (All-tail (λ (r : Process). p r ≡ false) row rows none) passes)

-- a process more leaves those of services that have others
pid_before : (rows : List Process) (new : Process) (row : Service) → row.process < new.number
    → pid_of (rows ++ new ∷ []) row ≡ pid_of rows row
pid_before rows new row below =
    ap (λ (found : Option Process). cond (row.process == 0) 0 (pid_in found))
    (find_before (λ (process : Process). process.number == row.process) rows new
    (ne_eqb new.number row.process (λ same. absurd (omega (arith, same, below)))))

-- one that isn't launched yet has none
pid_unlaunched : (rows : List Process) (new : Process) (row : Service) → All (λ (process : Process). process.number < new.number) rows
    → row.process ≡ new.number → new.pid ≡ 0
    → pid_of (rows ++ new ∷ []) row ≡ 0
pid_unlaunched rows new row below same none =
    elim (row.process == 0) as (λ b. cond b 0
    (pid_in (find (λ (process : Process). process.number == row.process) (rows ++ new ∷ []))) ≡ 0) [
      | true ↦ refl
      | false ↦
          ap pid_in (find_last (λ (process : Process). process.number == row.process) rows new
          (All-weaker (λ (process : Process). process.number < new.number) (λ (process : Process). (process.number == row.process) ≡ false)
          (λ process low. ne_eqb process.number row.process (λ is. absurd (omega (arith, is, low, same)))) rows below)
          (eq-eqb new.number row.process (sym same))) ∙ none
    ]

-- ## What settling keeps

pub record Settles (f g : Flat) : Type 0 where
  pub notifies : Notifies f g
  pub same : HasSame f g
  pub stopped : (n : ℕ) (row : Service) → service_of g n ≡ Some row → row.status.state ≡ 1 → service_of f n ≡ Some row
  pub named : All (λ (row : Service). (row.number == 0) ≡ false) g.services
  pub current : All (λ (row : Service). row.process < g.next.process) g.services
  pub listed : All (λ (process : Process). process.number < g.next.process) g.processes
  pub positive : All (λ (process : Process). 1 ≤ process.number) g.processes
  pub first : 1 ≤ g.next.process

started_other : (n p : ℕ) (row : Service) → (row.number == n) ≡ false → started_if n p row ≡ row
started_other n p row other = rw other refl

started_own : (n p : ℕ) (row : Service) → (row.number == n) ≡ true → row.status.state ≡ 1 → started_if n p row ≡ starting_in p row
started_own n p row own stopped =
    let is : (row.number == n && row.status.state == 1) ≡ true = rw (own, eq-eqb row.status.state 1 stopped) refl in
    ap (λ b. cond b (starting_in p row) row) is

option_same : (change : Service → Service) (found : Option Service) → ((row : Service) → found ≡ Some row → change row ≡ row)
    → option_map change found ≡ found
option_same change None same = refl
option_same change (Some row) same = ap Some (same row refl)

-- what is known of the process by which a service is started, and of those that are listed then
record IsListed (g : Flat) (row : Service) (process pid next : ℕ) (processes : List Process) : Type 0 where
  low : process < next
  up : g.next.process ≤ next
  listed : All (λ (p : Process). p.number < next) processes
  positive : All (λ (p : Process). 1 ≤ p.number) processes
  own : pid_of processes (starting_in process row) ≡ pid
  others : (other : Service) → other.process < g.next.process → pid_of processes other ≡ pid_of g.processes other

by_new : (f g : Flat) (n : ℕ) (shared : Bool) (row : Service) → Settles f g
    → IsListed g row g.next.process 0 (g.next.process + 1) (g.processes ++ wanted_process g.next.process n shared ∷ [])
by_new f g n shared row s =
    let next = g.next.process in
    let new = wanted_process next n shared in
    record {
      low = omega arith;
      up = omega arith;
      listed = All-push (λ (p : Process). p.number < next + 1) g.processes new
          (All-weaker (λ (p : Process). p.number < next) (λ (p : Process). p.number < next + 1)
          (λ p low. omega (arith, low)) g.processes s.listed) (omega arith);
      positive = All-push (λ (p : Process). 1 ≤ p.number) g.processes new s.positive s.first;
      own = pid_unlaunched g.processes new (starting_in next row) s.listed refl refl;
      others = λ other below. pid_before g.processes new other below;
    }

-- a host is listed, so it has a number
listed_there : (P : Process → Type 0) (number : ℕ) (rows : List Process) → All P rows
    → is_shared (find (λ (p : Process). p.number == number) rows) ≡ true
    → ((p : Process) → P p → p.number ≡ number → ⊥) → ⊥
listed_there P number [] all shared never = absurd cc
listed_there P number (p ∷ rows) all shared never =
    elim (p.number == number) as (λ b. (p.number == number) ≡ b
    → is_shared (cond b (Some p) (find (λ (q : Process). q.number == number) rows)) ≡ true → ⊥) [
      | true ↦ λ e h. never p (All-head P p rows all) (eqb-true p.number number e)
      | false ↦ λ e h. listed_there P number rows (All-tail P p rows all) h never
    ] refl shared

by_host : (f g : Flat) (n process : ℕ) (row : Service) → IsHost g n process → Settles f g
    → IsListed g row process (pid_in (process_of g process)) g.next.process g.processes
by_host f g n process row host s =
    let some : (process == 0) ≡ false = ne_eqb process 0 (λ zero. absurd (listed_there (λ (p : Process). 1 ≤ p.number) process g.processes
    s.positive host.shared (λ p first same. omega (arith, zero, first, same)))) in
    record {
      low = below (cases_lt process g.next.process);
      up = omega arith;
      listed = s.listed;
      positive = s.positive;
      own = ap (λ b. cond b 0 (pid_in (process_of g process))) some;
      others = λ other below. refl;
    }
  where
    below : (process < g.next.process) ⊎ (g.next.process ≤ process) → process < g.next.process
    below (inl low) = low
    below (inr high) = absurd (listed_there (λ (p : Process). p.number < g.next.process) process g.processes s.listed host.shared
        (λ p low same. omega (arith, high, low, same)))

settles_by : (f g : Flat) (n : ℕ) (words : List (List ℕ)) (row : Service) (o : Option ℕ) → service_of g n ≡ Some row
    → row.status.state ≡ 1 → Settles f g
    → IsListed g row (process_for g o) (pid_for g o) (entered_at g n words o).next.process (entered_at g n words o).processes
    → Settles f (entered_at g n words o)
settles_by f g n words row o found stopped s is_listed = record {
  notifies = told ∙ ap (noted event) s.notifies ∙ maps_twice (notified event) (notified_between f g) f.registrations
      ∙ maps_same (λ r. notified event (notified_between f g r)) (notified_between f after) each f.registrations;
  same = same;
  stopped = still_stopped;
  named = All-map (λ (r : Service). (r.number == 0) ≡ false) (started_if n p) g.services
      (λ k d lt. ap (λ m. m == 0) (same_number n p (get_or g.services k d)) ∙ s.named k d lt);
  current = All-map (λ (r : Service). r.process < after.next.process) (started_if n p) g.services
      (λ k d lt. started_or (λ (r : Service). r.process < after.next.process) n p (get_or g.services k d) (λ e. is_listed.low)
      (let low = s.current k d lt in let up = is_listed.up in omega (arith, low, up)));
  listed = is_listed.listed;
  positive = is_listed.positive;
  first = (let first = s.first in let up = is_listed.up in omega (arith, first, up));
}
  where
    p : ℕ
    p = process_for g o

    after : Flat
    after = entered_at g n words o

    new : Service
    new = starting_in p row

    event : Event
    event = event_of_state (pid_for g o) new

    own : (row.number == n) ≡ true
    own = found_passes (λ (r : Service). r.number == n) row g.services found

    some : (n == 0) ≡ false
    some = ap (λ m. m == 0) (sym (eqb-true row.number n own))
        ∙ found_has (λ (r : Service). (r.number == 0) ≡ false) (λ (r : Service). r.number == n) row g.services s.named found

    told : after.registrations ≡ noted event g.registrations
    told =
        ap (λ (there : Option Service). notified_of_start n p (pid_for g o) there g.registrations) found
        ∙ ap (λ (r : Service). notified_of_move (pid_for g o) row r g.registrations) (started_own n p row own stopped)
        ∙ ap (λ b. cond b g.registrations (noted event g.registrations))
        (ne_eqb row.status.state 2 (λ two. absurd (omega (arith, two, stopped))))

    same : HasSame f after
    same = record {
      came = All-map (λ (r : Service). has_service r.number f ≡ true) (started_if n p) g.services
          (λ k d lt. ap (λ m. has_service m f) (same_number n p (get_or g.services k d)) ∙ s.same.came k d lt);
      left = All-weaker (λ (r : Service). has_service r.number g ≡ true) (λ (r : Service). has_service r.number after ≡ true)
          (λ r there. has_changed (started_if n p) (same_number n p) r.number g.services ∙ there) f.services s.same.left;
    }

    changed : (m : ℕ) → service_of after m ≡ option_map (started_if n p) (service_of g m)
    changed m = find_changed (started_if n p) (same_number n p) m g.services

    still_stopped : (m : ℕ) (r : Service) → service_of after m ≡ Some r → r.status.state ≡ 1 → service_of f m ≡ Some r
    still_stopped m r is one = at (service_of g m) refl (sym (changed m) ∙ is)
      where
        at : (o : Option Service) → service_of g m ≡ o → option_map (started_if n p) o ≡ Some r → service_of f m ≡ Some r
        at None before is_after = absurd cc
        at (Some x) before is_after =
            let made : started_if n p x ≡ r = cc in
            started_or (λ (y : Service). y ≡ r → service_of f m ≡ Some r) n p x
            (λ e begun. absurd (let two : r.status.state ≡ 2 = ap (λ (z : Service). z.status.state) (sym begun) in omega (arith, two, one)))
            (λ stays. s.stopped m r (before ∙ ap Some stays) one) made

    own_events : events_of_change after.processes row new ≡ event ∷ []
    own_events =
        let pid : pid_of after.processes new ≡ pid_for g o = is_listed.own in
        let moves : (row.status.state == 2) ≡ false = ne_eqb row.status.state 2 (λ two. absurd (omega (arith, two, stopped))) in
        let unmarked : was_marked row new ≡ false = (unmoved row).1 in
        rw (moves, unmarked, pid) refl

    at_own : (m : ℕ) (r : Registration) → m ≡ n
        → notified event (notified_first (events_between f g m) r) ≡ notified_first (events_between f after m) r
    at_own m r is =
        let positive : (m == 0) ≡ false = ap (λ k. k == 0) is ∙ some in
        let then : service_of g m ≡ Some row = ap (service_of g) is ∙ found in
        let first : service_of f m ≡ Some row = s.stopped m row then stopped in
        let now : service_of after m ≡ Some new = changed m ∙ ap (option_map (started_if n p)) then
        ∙ ap Some (started_own n p row own stopped) in
        let none : events_between f g m ≡ [] = at_service f g m positive ∙ rw (first, then) (quiet_row g.processes row row (unmoved row)) in
        let one : events_between f after m ≡ event ∷ [] = at_service f after m positive ∙ rw (first, now) own_events in
        ap (λ es. notified event (notified_first es r)) none ∙ sym (one_by_one event [] r) ∙ ap (λ es. notified_first es r) (sym one)

    unheard : (r : Registration) (events : List Event) → (r.service == n) ≡ false
        → notified event (notified_first events r) ≡ notified_first events r
    unheard r events other =
        let here = ap (λ m. m == row.number) (same_service events r) ∙ ap (λ m. r.service == m) (eqb-true row.number n own) ∙ other in
        ap (λ b. cond b (record (notified_first events r) { fired = event.bit; status = event.status; name = event.name })
        (notified_first events r)) (other_service (notified_first events r) event here)

    elsewhere : (m : ℕ) → (m == n) ≡ false → events_between f g m ≡ events_between f after m
    elsewhere m other = elim (cases_Bool (m == 0)) [
      | inl none ↦ at_manager f g m none ∙ nothing_of_manager f g s.same ∙ sym (at_manager f after m none ∙ nothing_of_manager f after same)
      | inr positive ↦ at_service f g m positive ∙ go (service_of g m) refl ∙ sym (at_service f after m positive)
    ]
      where
        go : (o : Option Service) → service_of g m ≡ o
            → events_of_service g.processes (service_of f m) (service_of g m) ≡ events_of_service after.processes (service_of f m)
            (service_of after m)
        go o is =
            let unchanged : service_of after m ≡ service_of g m = changed m ∙ option_same (started_if n p) (service_of g m)
            (λ x there. started_other n p x
            (ap (λ k. k == n) (eqb-true x.number m (found_passes (λ (y : Service). y.number == m) x g.services there)) ∙ other)) in
            by_old (service_of f m) o is ∙ ap (events_of_service after.processes (service_of f m)) (sym unchanged)
          where
            by_old : (old : Option Service) (o' : Option Service) → service_of g m ≡ o'
                → events_of_service g.processes old (service_of g m) ≡ events_of_service after.processes old (service_of g m)
            by_old None o' is' = refl
            by_old (Some x) None is' = rw is' refl
            by_old (Some x) (Some y) is' =
                let pid : pid_of after.processes y ≡ pid_of g.processes y =
                is_listed.others y
                (found_has (λ (z : Service). z.process < g.next.process) (λ (z : Service). z.number == m) y g.services s.current is') in
                rw (is', pid) refl

    each : (r : Registration) → notified event (notified_between f g r) ≡ notified_between f after r
    each r = elim (cases_Bool (r.service == n)) [
      | inl same_one ↦ at_own r.service r (eqb-true r.service n same_one)
      | inr other ↦ unheard r (events_between f g r.service) other ∙ ap (λ es. notified_first es r) (elsewhere r.service other)
    ]

pub entering_settles : (f g : Flat) (n : ℕ) (words : List (List ℕ)) (row : Service) → service_of g n ≡ Some row → row.status.state ≡ 1
    → Settles f g → Settles f (with_entered g n words)
entering_settles f g n words row found stopped s =
    entered_keeps (Settles f) g n words
    (λ none. settles_by f g n words row None found stopped s (by_new f g n (is_shared_by (service_of g n)) row s))
    (λ process host. settles_by f g n words row (Some process) found stopped s (by_host f g n process row host s))
