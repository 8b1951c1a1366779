-- Services that fall one after another: each registration is notified of its own service's fall.
use Rattle.std.proofs.Common.{ℕ, suc, ◌≡◌, ◌∙◌, ◌<◌, ◌≤◌, ◌==◌, ◌&&◌, not, true, false, cond, List, [], ◌∷◌, ◌++◌, Some, find, map, ap}
use Rattle.std.proofs.Common.{sym, refl, subst, eqb-true, eq-eqb, ne_eqb, arith, inl, inr}
use Rattle.std.specs.Prelude.{All, AllPairs, option_map}
use Rattle.std.proofs.lemmas.Bool.{cases_Bool}
use Rattle.std.proofs.lemmas.List.Elements.{All-filter, All-head, All-tail, All-weaker}
use Rattle.scm_model.specs.Notices.{event_of_mark, event_of_state, noted, notified, notified_of_move, pid_of, takes_event}
use Rattle.scm_model.specs.Processes.{currents, is_by}
use Rattle.scm_model.specs.declared.flat.Flat.{Flat}
use Rattle.scm_model.specs.declared.flat.Process.{Process}
use Rattle.scm_model.specs.declared.flat.Registration.{Registration}
use Rattle.scm_model.specs.declared.flat.Service.{Service}
use Rattle.scm_rules.specs.Launches.{fallen, notified_of_falls}
use Rattle.scm_runs.proofs.Sound.{Sound}
use Rattle.scm_notices.specs.Events.{Notifies, events_of_change, events_of_service, notified_between, notified_first, was_marked}
use Rattle.scm_notices.proofs.Between.{IsQuiet, changed_same, of_manager, of_service, quiet_row, unmoved}
use Rattle.scm_notices.proofs.Firsts.{maps_nothing, maps_same, maps_twice, one_by_one, other_service}

-- ## One registration

-- it is notified of the fall of a service
abbrev pub notified_fall : ℕ → Service → Registration → Registration
notified_fall code row r =
    cond (row.status.state == (fallen code row).status.state) r (notified (event_of_state 0 (fallen code row)) r)

abbrev pub note_falls : ℕ → List Service → Registration → Registration
note_falls code [] r = r
note_falls code (row ∷ rows) r = note_falls code rows (notified_fall code row r)

one_fall : (code : ℕ) (row : Service) (rs : List Registration) → notified_of_move 0 row (fallen code row) rs ≡ map
    (notified_fall code row) rs
one_fall code row rs =
    let event = event_of_state 0 (fallen code row) in
    elim (row.status.state == (fallen code row).status.state) as
    (λ b. cond b rs (noted event rs) ≡ map (λ r. cond b r (notified event r)) rs) [
      | true ↦ sym (maps_nothing (λ (r : Registration). r) (λ r. refl) rs)
      | false ↦ refl
    ]

pub each_fall : (code : ℕ) (rows : List Service) (rs : List Registration) → notified_of_falls code rows rs ≡ map (note_falls code rows) rs
each_fall code [] rs = sym (maps_nothing (λ (r : Registration). r) (λ r. refl) rs)
each_fall code (row ∷ rows) rs =
    each_fall code rows (notified_of_move 0 row (fallen code row) rs)
    ∙ ap (map (note_falls code rows)) (one_fall code row rs)
    ∙ maps_twice (note_falls code rows) (notified_fall code row) rs

-- a move to another state is the one event of a service that isn't marked meanwhile
pub one_by_move : (processes : List Process) (pid : ℕ) (old new : Service) (r : Registration) → pid_of processes new ≡ pid
    → new.marked ≡ old.marked
    → cond (old.status.state == new.status.state) r (notified (event_of_state pid new) r)
    ≡ notified_first (events_of_change processes old new) r
one_by_move processes pid old new r same mark =
    let unmarked : was_marked old new ≡ false = ap (λ m. not old.marked && m) mark ∙ (unmoved old).1 in
    elim (old.status.state == new.status.state) as (λ b. cond b r (notified (event_of_state pid new) r)
    ≡ notified_first (cond (not b) (event_of_state (pid_of processes new) new ∷ []) [] ++ cond (was_marked old new)
    (event_of_mark (pid_of processes new) new ∷ []) []) r) [
      | true ↦ rw unmarked refl
      | false ↦ rw (unmarked, same) (sym (one_by_one (event_of_state pid new) [] r))
    ]

-- ## A registration of another service

fall_service : (code : ℕ) (row : Service) (r : Registration) → (notified_fall code row r).service ≡ r.service
fall_service code row r =
    let event = event_of_state 0 (fallen code row) in
    elim (row.status.state == (fallen code row).status.state) as (λ b. (cond b r (notified event r)).service ≡ r.service) [
      | true ↦ refl
      | false ↦ elim (takes_event event r) as
          (λ b. (cond b (record r { fired = event.bit; status = event.status; name = event.name }) r).service ≡ r.service)
          [ true ↦ refl | false ↦ refl ]
    ]

unheard_fall : (code : ℕ) (row : Service) (r : Registration) → (r.service == row.number) ≡ false → notified_fall code row r ≡ r
unheard_fall code row r other =
    let event = event_of_state 0 (fallen code row) in
    elim (row.status.state == (fallen code row).status.state) as (λ b. cond b r (notified event r) ≡ r) [
      | true ↦ refl
      | false ↦ ap (λ b. cond b (record r { fired = event.bit; status = event.status; name = event.name }) r) (other_service r event other)
    ]

abbrev IsOther : ℕ → Service → Type 0
IsOther n row = (n == row.number) ≡ false

unheard_falls : (code : ℕ) (rows : List Service) (r : Registration) → All (IsOther r.service) rows → note_falls code rows r ≡ r
unheard_falls code [] r others = refl
unheard_falls code (row ∷ rows) r others =
    ap (note_falls code rows) (unheard_fall code row r (All-head (IsOther r.service) row rows others))
    ∙ unheard_falls code rows r (All-tail (IsOther r.service) row rows others)

-- ## The service of a registration

-- what becomes of a service where a process leaves: it falls by it, or neither moves nor is marked
pub record FallsBy (processes : List Process) (process code : ℕ) (change : Service → Service) (row : Service) : Type 0 where
  pub falls : is_by process row ≡ true → (r : Registration)
      → notified_fall code row r ≡ notified_first (events_of_change processes row (change row)) r
  pub stays : is_by process row ≡ false → IsQuiet row (change row)

at_service : (processes : List Process) (process code : ℕ) (change : Service → Service) (n : ℕ) (rows : List Service) (r : Registration)
    → r.service ≡ n → AllPairs (λ (a b : Service). a.number < b.number) rows → All (FallsBy processes process code change) rows
    → note_falls code (currents process rows) r ≡ notified_first (events_of_service processes
    (find (λ (row : Service). row.number == n) rows) (option_map change (find (λ (row : Service). row.number == n) rows))) r
at_service processes process code change n [] r is rising all = refl
at_service processes process code change n (row ∷ rows) r is rising all =
    let here = All-head (FallsBy processes process code change) row rows all in
    let rest = at_service processes process code change n rows r is
    (λ i j d lt within. rising (suc i) (suc j) d (omega arith) (omega arith))
    (All-tail (FallsBy processes process code change) row rows all) in
    let found = find (λ (other : Service). other.number == n) rows in
    let above : All (λ (other : Service). row.number < other.number) rows = λ k d lt. rising 0 (suc k) d (omega arith) (omega arith) in
    elim (row.number == n) as (λ b. (row.number == n) ≡ b
    → note_falls code (currents process (row ∷ rows)) r ≡ notified_first (events_of_service processes (cond b (Some row) found)
    (option_map change (cond b (Some row) found))) r) [
      | true ↦ λ e.
          let others : All (IsOther r.service) (currents process rows) =
          All-filter (is_by process) (IsOther r.service) rows
          (All-weaker (λ (other : Service). row.number < other.number) (IsOther r.service)
          (λ other lt. ne_eqb r.service other.number (λ same. absurd (let own = eqb-true row.number n e in
          omega (arith, own, is, same, lt))))
          rows above) in
          elim (is_by process row) as (λ b. is_by process row ≡ b
          → note_falls code (cond b (row ∷ currents process rows) (currents process rows)) r
          ≡ notified_first (events_of_change processes row (change row)) r) [
            | true ↦ λ by. unheard_falls code (currents process rows) (notified_fall code row r)
                (subst (λ m. All (IsOther m) (currents process rows)) (sym (fall_service code row r)) others) ∙ here.falls by r
            | false ↦ λ out. unheard_falls code (currents process rows) r others
                ∙ sym (ap (λ es. notified_first es r) (quiet_row processes row (change row) (here.stays out)))
          ] refl
      | false ↦ λ e.
          let other : IsOther r.service row = ne_eqb r.service row.number (λ same. absurd (
          let own = eq-eqb row.number n (sym same ∙ is) in cc)) in
          elim (is_by process row) as (λ b. note_falls code (cond b (row ∷ currents process rows) (currents process rows)) r
          ≡ notified_first (events_of_service processes found (option_map change found)) r) [
            | true ↦ ap (note_falls code (currents process rows)) (unheard_fall code row r other) ∙ rest
            | false ↦ rest
          ]
    ] refl

-- ## All registrations

pub notified_of_fallen : (f g : Flat) (process code : ℕ) (change : Service → Service) → Sound f
    → ((row : Service) → (change row).number ≡ row.number) → g.services ≡ map change f.services
    → All (FallsBy g.processes process code change) f.services
    → g.registrations ≡ notified_of_falls code (currents process f.services) f.registrations → Notifies f g
notified_of_fallen f g process code change s numbers services falls told =
    told ∙ each_fall code (currents process f.services) f.registrations
    ∙ maps_same (note_falls code (currents process f.services)) (notified_between f g) each f.registrations
  where
    each : (r : Registration) → note_falls code (currents process f.services) r ≡ notified_between f g r
    each r = elim (cases_Bool (r.service == 0)) [
      | inl none ↦
          unheard_falls code (currents process f.services) r
          (All-filter (is_by process) (IsOther r.service) f.services
          (All-weaker (λ (row : Service). 1 ≤ row.number) (IsOther r.service)
          (λ row first. ne_eqb r.service row.number (λ same. absurd (let zero = eqb-true r.service 0 none in
          omega (arith, zero, same, first))))
          f.services s.services.numbered.positive))
          ∙ sym (ap (λ es. notified_first es r) (of_manager f g (changed_same f g change numbers services) r.service none))
      | inr some ↦
          at_service g.processes process code change r.service f.services r refl s.services.numbered.rising falls
          ∙ sym (ap (λ es. notified_first es r) (of_service f g change numbers services r.service some))
    ]
