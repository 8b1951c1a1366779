-- The events between two states.
use Rattle.std.proofs.Common.{ℕ, ◌≡◌, ◌∙◌, ◌==◌, ◌&&◌, ◌||◌, not, Bool, true, false, cond, List, [], ◌∷◌, Option, Some, inl, inr, filter}
use Rattle.std.proofs.Common.{find, map, ap, sym, refl, subst, eqb-true, eq-eqb, get_or}
use Rattle.std.specs.Prelude.{All, option_map}
use Rattle.std.proofs.lemmas.Bool.{cases_Bool, or_right}
use Rattle.std.proofs.lemmas.List.Elements.{All-head, All-map, All-cons, All-nil, All-tail, All-weaker}
use Rattle.scm_model.specs.Notices.{Event, takes_event}
use Rattle.scm_model.specs.Rows.{service_of}
use Rattle.scm_model.specs.declared.flat.Flat.{Flat}
use Rattle.scm_model.specs.declared.flat.Process.{Process}
use Rattle.scm_model.specs.declared.flat.Registration.{Registration}
use Rattle.scm_model.specs.declared.flat.Service.{Service}
use Rattle.scm_history.specs.Once.{is_in_rows, has_service}
use Rattle.scm_notices.specs.Events.{Notifies, events_between, events_of_change, events_of_manager, events_of_service, has_moved}
use Rattle.scm_notices.specs.Events.{notified_between, notified_first, was_marked}
use Rattle.scm_notices.proofs.Firsts.{maps_nothing, maps_same, other_service, takes_none}

-- ## Rows that change, and keep their numbers

abbrev number_of : Service → ℕ
number_of row = row.number

pub find_changed : (change : Service → Service) → ((row : Service) → (change row).number ≡ row.number) → (n : ℕ) (rows : List Service)
    → find (λ (row : Service). row.number == n) (map change rows) ≡ option_map change (find (λ (row : Service). row.number == n) rows)
find_changed change same n [] = refl
find_changed change same n (row ∷ rows) =
    ap (λ m. cond (m == n) (Some (change row)) (find (λ (r : Service). r.number == n) (map change rows))) (same row)
    ∙ elim (row.number == n) as (λ b. cond b (Some (change row)) (find (λ (r : Service). r.number == n) (map change rows))
    ≡ option_map change (cond b (Some row) (find (λ (r : Service). r.number == n) rows)))
    [ true ↦ refl | false ↦ find_changed change same n rows ]

pub has_changed : (change : Service → Service) → ((row : Service) → (change row).number ≡ row.number) → (n : ℕ) (rows : List Service)
    → is_in_rows number_of n (map change rows) ≡ is_in_rows number_of n rows
has_changed change same n [] = refl
has_changed change same n (row ∷ rows) =
    ap (λ m. m == n || is_in_rows number_of n (map change rows)) (same row)
    ∙ ap (λ b. row.number == n || b) (has_changed change same n rows)

-- ## Nobody comes, and nobody leaves

filter_none : (test : Service → Bool) (rows : List Service) → All (λ (row : Service). test row ≡ false) rows → filter test rows ≡ []
filter_none test [] none = refl
filter_none test (row ∷ rows) none =
    rw (All-head (λ (r : Service). test r ≡ false) row rows none)
    (filter_none test rows (All-tail (λ (r : Service). test r ≡ false) row rows none))

pub any_own : (rows : List Service) → All (λ (row : Service). is_in_rows number_of row.number rows ≡ true) rows
any_own [] = All-nil (λ (row : Service). is_in_rows number_of row.number [] ≡ true)
any_own (first ∷ rows) =
    All-cons (λ (row : Service). is_in_rows number_of row.number (first ∷ rows) ≡ true) first rows
    (ap (λ b. b || is_in_rows number_of first.number rows) (eq-eqb first.number first.number refl))
    (All-weaker (λ (row : Service). is_in_rows number_of row.number rows ≡ true)
    (λ (row : Service). is_in_rows number_of row.number (first ∷ rows) ≡ true)
    (λ row there. or_right (first.number == row.number) (is_in_rows number_of row.number rows) there) rows (any_own rows))

pub all_there : (f : Flat) (rows : List Service) → All (λ (row : Service). has_service row.number f ≡ true) rows
    → filter (λ (row : Service). not (has_service row.number f)) rows ≡ []
all_there f rows there = filter_none (λ (row : Service). not (has_service row.number f)) rows
    (All-weaker (λ (row : Service). has_service row.number f ≡ true) (λ (row : Service). not (has_service row.number f) ≡ false)
    (λ row is. ap not is) rows there)

-- neither state has a service that the other hasn't
pub record HasSame (f g : Flat) : Type 0 where
  pub came : All (λ (row : Service). has_service row.number f ≡ true) g.services
  pub left : All (λ (row : Service). has_service row.number g ≡ true) f.services

pub nothing_of_manager : (f g : Flat) → HasSame f g → events_of_manager f g ≡ []
nothing_of_manager f g same = rw (all_there f g.services same.came, all_there g f.services same.left) refl

pub changed_same : (f g : Flat) (change : Service → Service) → ((row : Service) → (change row).number ≡ row.number)
    → g.services ≡ map change f.services → HasSame f g
changed_same f g change same is = record {
  came = subst (λ (rows : List Service). All (λ (row : Service). has_service row.number f ≡ true) rows) (sym is)
      (All-map (λ (row : Service). has_service row.number f ≡ true) change f.services
      (λ k d lt. ap (λ n. has_service n f) (same (get_or f.services k d)) ∙ any_own f.services k d lt));
  left = All-weaker (λ (row : Service). has_service row.number f ≡ true) (λ (row : Service). has_service row.number g ≡ true)
      (λ row there. ap (is_in_rows number_of row.number) is ∙ has_changed change same row.number f.services ∙ there) f.services
      (any_own f.services);
}

-- ## What a registration is notified of

-- where its service is another one than that of the events
pub of_another : (row : Registration) (events : List Event) → All (λ (event : Event). (row.service == event.service) ≡ false) events
    → notified_first events row ≡ row
of_another row events others = takes_none row events
    (All-weaker (λ (event : Event). (row.service == event.service) ≡ false) (λ (event : Event). takes_event event row ≡ false)
    (λ event e. other_service row event e) events others)

-- a state is looked at between which and another no service moves or is marked
abbrev pub IsQuiet : Service → Service → Type 0
IsQuiet old new = (has_moved old new ≡ false) × (was_marked old new ≡ false)

pub quiet_row : (processes : List Process) (old new : Service) → IsQuiet old new → events_of_change processes old new ≡ []
quiet_row processes old new quiet = rw (quiet.0, quiet.1) refl

pub unmoved : (row : Service) → IsQuiet row row
unmoved row = (
  ap not (eq-eqb row.status.state row.status.state refl),
  (elim row.marked as (λ m. (not m && m) ≡ false) [ true ↦ refl | false ↦ refl ]),
)

-- ## One service changes

-- what becomes of a service, and of no other
pub record OneChanges (f g : Flat) (change : Service → Service) (row : Service) (told : List Event) : Type 0 where
  pub numbers : (other : Service) → (change other).number ≡ other.number
  pub services : g.services ≡ map change f.services
  pub found : service_of f row.number ≡ Some row
  pub some : (row.number == 0) ≡ false
  pub others : All (λ (other : Service). (other.number == row.number) ≡ false → IsQuiet other (change other)) f.services
  pub events : events_of_change g.processes row (change row) ≡ told
  pub own : All (λ (event : Event). event.service ≡ row.number) told
  pub registrations : g.registrations ≡ map (notified_first told) f.registrations

pub found_changed : (f g : Flat) (change : Service → Service) → ((row : Service) → (change row).number ≡ row.number)
    → g.services ≡ map change f.services
    → (n : ℕ) → service_of g n ≡ option_map change (service_of f n)
found_changed f g change same is n = ap (find (λ (row : Service). row.number == n)) is ∙ find_changed change same n f.services

-- between services that keep their numbers
pub of_service : (f g : Flat) (change : Service → Service) → ((row : Service) → (change row).number ≡ row.number)
    → g.services ≡ map change f.services
    → (n : ℕ) → (n == 0) ≡ false → events_between f g n ≡ events_of_service g.processes (service_of f n)
    (option_map change (service_of f n))
of_service f g change same is n some =
    ap (λ b. cond b (events_of_manager f g) (events_of_service g.processes (service_of f n) (service_of g n))) some
    ∙ ap (events_of_service g.processes (service_of f n)) (found_changed f g change same is n)

pub of_manager : (f g : Flat) → HasSame f g → (n : ℕ) → (n == 0) ≡ true → events_between f g n ≡ []
of_manager f g same n none =
    ap (λ b. cond b (events_of_manager f g) (events_of_service g.processes (service_of f n) (service_of g n))) none
    ∙ nothing_of_manager f g same

-- a service that is found, if any, is quiet
pub quiet_found : (processes : List Process) (change : Service → Service) (n : ℕ) (rows : List Service)
    → All (λ (row : Service). (row.number == n) ≡ true → IsQuiet row (change row)) rows
    → events_of_service processes (find (λ (row : Service). row.number == n) rows)
    (option_map change (find (λ (row : Service). row.number == n) rows)) ≡ []
quiet_found processes change n [] quiet = refl
quiet_found processes change n (row ∷ rows) quiet =
    elim (row.number == n) as (λ b. (row.number == n) ≡ b
    → events_of_service processes (cond b (Some row) (find (λ (r : Service). r.number == n) rows))
    (option_map change (cond b (Some row) (find (λ (r : Service). r.number == n) rows))) ≡ []) [
      | true ↦ λ e. quiet_row processes row (change row)
          (All-head (λ (r : Service). (r.number == n) ≡ true → IsQuiet r (change r)) row rows quiet e)
      | false ↦ λ e. quiet_found processes change n rows
          (All-tail (λ (r : Service). (r.number == n) ≡ true → IsQuiet r (change r)) row rows quiet)
    ] refl

other_number : (a n m : ℕ) → (a == n) ≡ true → (n == m) ≡ false → (a == m) ≡ false
other_number a n m same other = ap (λ x. x == m) (eqb-true a n same) ∙ other

pub notified_of_one : (f g : Flat) (change : Service → Service) (row : Service) (told : List Event) → OneChanges f g change row told
    → Notifies f g
notified_of_one f g change row told one =
    one.registrations ∙ maps_same (notified_first told) (notified_between f g) each f.registrations
  where
    -- the events are of the row's number
    unheard : (r : Registration) → (r.service == row.number) ≡ false → notified_first told r ≡ r
    unheard r apart = of_another r told
        (All-weaker (λ (event : Event). event.service ≡ row.number) (λ (event : Event). (r.service == event.service) ≡ false)
        (λ event is. ap (λ n. r.service == n) is ∙ apart) told one.own)

    same : HasSame f g
    same = changed_same f g change one.numbers one.services

    at_other : (r : Registration) → (r.service == row.number) ≡ false → events_between f g r.service ≡ []
    at_other r apart = elim (cases_Bool (r.service == 0)) [
      | inl none ↦ of_manager f g same r.service none
      | inr some ↦ of_service f g change one.numbers one.services r.service some
          ∙ quiet_found g.processes change r.service f.services
          (All-weaker (λ (other : Service). (other.number == row.number) ≡ false → IsQuiet other (change other))
          (λ (other : Service). (other.number == r.service) ≡ true → IsQuiet other (change other))
          (λ other quiet is. quiet (other_number other.number r.service row.number is apart)) f.services one.others)
    ]

    at_own : (n : ℕ) → n ≡ row.number → events_between f g n ≡ told
    at_own n is =
        let some : (n == 0) ≡ false = ap (λ m. m == 0) is ∙ one.some in
        let here : service_of f n ≡ Some row = ap (service_of f) is ∙ one.found in
        of_service f g change one.numbers one.services n some
        ∙ ap (λ (found : Option Service). events_of_service g.processes found (option_map change found)) here ∙ one.events

    each : (r : Registration) → notified_first told r ≡ notified_between f g r
    each r = elim (cases_Bool (r.service == row.number)) [
      | inl own ↦ ap (λ es. notified_first es r) (sym (at_own r.service (eqb-true r.service row.number own)))
      | inr apart ↦ unheard r apart ∙ ap (λ es. notified_first es r) (sym (at_other r apart))
    ]

-- ## No service changes

pub no_events : (f g : Flat) (change : Service → Service) → ((row : Service) → (change row).number ≡ row.number)
    → g.services ≡ map change f.services
    → All (λ (row : Service). IsQuiet row (change row)) f.services → (n : ℕ) → events_between f g n ≡ []
no_events f g change numbers is quiet n =
    elim (cases_Bool (n == 0)) [
      | inl none ↦ of_manager f g (changed_same f g change numbers is) n none
      | inr some ↦
          of_service f g change numbers is n some
          ∙ quiet_found g.processes change n f.services
          (All-weaker (λ (row : Service). IsQuiet row (change row))
          (λ (row : Service). (row.number == n) ≡ true → IsQuiet row (change row))
          (λ row q e. q) f.services quiet)
    ]

pub notified_of_none : (f g : Flat) (change : Service → Service) → ((row : Service) → (change row).number ≡ row.number)
    → g.services ≡ map change f.services
    → All (λ (row : Service). IsQuiet row (change row)) f.services → g.registrations ≡ f.registrations → Notifies f g
notified_of_none f g change numbers is quiet rows =
    rows
    ∙ sym (maps_nothing (notified_between f g)
    (λ r. ap (λ es. notified_first es r) (no_events f g change numbers is quiet r.service)) f.registrations)

pub notified_of_nothing : (f g : Flat) → g.services ≡ f.services → g.registrations ≡ f.registrations → Notifies f g
notified_of_nothing f g services rows =
    notified_of_none f g (λ row. row) (λ row. refl) (services ∙ sym (maps_nothing (λ (row : Service). row) (λ row. refl) f.services))
    (λ k d lt. unmoved (get_or f.services k d)) rows
