-- Services that come, and that leave.
use Rattle.std.proofs.Common.{ℕ, ◌≡◌, ◌∙◌, ◌<◌, ◌==◌, ◌||◌, not, Bool, true, false, cond, List, [], ◌∷◌, ◌++◌, Option, None, Some, inl, inr}
use Rattle.std.proofs.Common.{filter, find, map, ap, sym, refl, subst, eq-eqb, ne_eqb, get_or, is_some}
use Rattle.std.specs.Prelude.{All, AllPairs}
use Rattle.std.specs.List.{list_any}
use Rattle.std.proofs.lemmas.Bool.{cases_Bool, or_right}
use Rattle.std.proofs.lemmas.List.Elements.{All-cons, All-filter, All-head, All-nil, All-tail, All-weaker, filter-append, filter_passes}
use Rattle.std.proofs.lemmas.List.Folds.{list_any-append, list_any_none}
use Rattle.scm_model.specs.Notices.{Event, event_of_leaving, noted, notified}
use Rattle.scm_model.specs.Purge.{leaves, leaving, purged}
use Rattle.scm_model.specs.Rows.{service_of}
use Rattle.scm_model.specs.declared.flat.Flat.{Flat}
use Rattle.scm_model.specs.declared.flat.Registration.{Registration}
use Rattle.scm_model.specs.declared.flat.Service.{Service}
use Rattle.scm_history.specs.Once.{is_in_rows, has_service}
use Rattle.scm_notices.specs.Events.{Notifies, event_of_arrival, events_between, events_of_manager, events_of_service, notified_between}
use Rattle.scm_notices.specs.Events.{notified_first}
use Rattle.scm_notices.proofs.Firsts.{each_notified, maps_same, one_by_one}
use Rattle.scm_notices.proofs.Between.{all_there, any_own, of_another, quiet_row, unmoved}
use Rattle.scm_runs.proofs.Lists.{alone, find_more, found_has, found_only, found_passes}

abbrev number_of : Service → ℕ
number_of row = row.number

-- an event of the manager
pub of_manager_alone : (r : Registration) (events : List Event) → (r.service == 0) ≡ false
    → All (λ (event : Event). event.service ≡ 0) events → notified_first events r ≡ r
of_manager_alone r events some each = of_another r events
    (All-weaker (λ (event : Event). event.service ≡ 0) (λ (event : Event). (r.service == event.service) ≡ false)
    (λ event is. ap (λ n. r.service == n) is ∙ some) events each)

pub at_manager : (f g : Flat) (n : ℕ) → (n == 0) ≡ true → events_between f g n ≡ events_of_manager f g
at_manager f g n none = ap (λ b. cond b (events_of_manager f g) (events_of_service g.processes (service_of f n) (service_of g n))) none

pub at_service : (f g : Flat) (n : ℕ) → (n == 0) ≡ false
    → events_between f g n ≡ events_of_service g.processes (service_of f n) (service_of g n)
at_service f g n some = ap (λ b. cond b (events_of_manager f g) (events_of_service g.processes (service_of f n) (service_of g n))) some

-- ## One comes

pub notified_of_arrival : (f g : Flat) (new : Service) → g.services ≡ f.services ++ new ∷ [] → has_service new.number f ≡ false
    → g.registrations ≡ noted (event_of_arrival new) f.registrations → Notifies f g
notified_of_arrival f g new services fresh rows =
    rows ∙ maps_same (notified (event_of_arrival new)) (notified_between f g) each f.registrations
  where
    still : All (λ (row : Service). has_service row.number g ≡ true) f.services
    still = All-weaker (λ (row : Service). has_service row.number f ≡ true) (λ (row : Service). has_service row.number g ≡ true)
        (λ row there. ap (is_in_rows number_of row.number) services
        ∙ list_any-append (λ (r : Service). r.number == row.number) f.services (new ∷ [])
        ∙ ap (λ b. b || list_any (λ (r : Service). r.number == row.number) (new ∷ [])) there) f.services (any_own f.services)

    came : filter (λ (row : Service). not (has_service row.number f)) g.services ≡ new ∷ []
    came = ap (filter (λ (row : Service). not (has_service row.number f))) services
        ∙ filter-append (λ (row : Service). not (has_service row.number f)) f.services (new ∷ [])
        ∙ ap (λ rest. rest ++ filter (λ (row : Service). not (has_service row.number f)) (new ∷ []))
        (all_there f f.services (any_own f.services))
        ∙ ap (λ b. cond (not b) (new ∷ []) []) fresh

    managers : events_of_manager f g ≡ event_of_arrival new ∷ []
    managers = rw (came, all_there g f.services still) refl

    found : (n : ℕ) (o : Option Service) → service_of f n ≡ o → events_of_service g.processes o (service_of g n) ≡ []
    found n None is = refl
    found n (Some row) is =
        let same : service_of g n ≡ Some row = ap (find (λ (r : Service). r.number == n)) services
        ∙ find_more (λ (r : Service). r.number == n) f.services (new ∷ []) (ap is_some is) ∙ is in
        ap (events_of_service g.processes (Some row)) same ∙ quiet_row g.processes row row (unmoved row)

    each : (r : Registration) → notified (event_of_arrival new) r ≡ notified_between f g r
    each r = sym (one_by_one (event_of_arrival new) [] r) ∙ elim (cases_Bool (r.service == 0)) [
      | inl none ↦ ap (λ es. notified_first es r) (sym (at_manager f g r.service none ∙ managers))
      | inr some ↦ of_manager_alone r (event_of_arrival new ∷ []) some
          (All-cons (λ (event : Event). event.service ≡ 0) (event_of_arrival new) [] refl (All-nil (λ (event : Event). event.service ≡ 0)))
          ∙ ap (λ es. notified_first es r) (sym (at_service f g r.service some ∙ found r.service (service_of f r.service) refl))
    ]

-- ## Some leave

filter_alike : (p q : Service → Bool) (rows : List Service) → All (λ (row : Service). p row ≡ q row) rows → filter p rows ≡ filter q rows
filter_alike p q [] each = refl
filter_alike p q (row ∷ rows) each =
    ap (λ b. cond b (row ∷ filter p rows) (filter p rows)) (All-head (λ (r : Service). p r ≡ q r) row rows each)
    ∙ ap (λ rest. cond (q row) (row ∷ rest) rest) (filter_alike p q rows (All-tail (λ (r : Service). p r ≡ q r) row rows each))

has_kept : (p : Service → Bool) (rows : List Service)
    → All (λ (row : Service). p row ≡ true → is_in_rows number_of row.number (filter p rows) ≡ true) rows
has_kept p [] = All-nil (λ (row : Service). p row ≡ true → is_in_rows number_of row.number [] ≡ true)
has_kept p (first ∷ rows) =
    All-cons (λ (row : Service). p row ≡ true → is_in_rows number_of row.number (filter p (first ∷ rows)) ≡ true) first rows
    (λ e. rw e (rw (eq-eqb first.number first.number refl) refl))
    (All-weaker (λ (row : Service). p row ≡ true → is_in_rows number_of row.number (filter p rows) ≡ true)
    (λ (row : Service). p row ≡ true → is_in_rows number_of row.number (filter p (first ∷ rows)) ≡ true)
    (λ row there passes. elim (p first) as (λ b. is_in_rows number_of row.number (cond b (first ∷ filter p rows) (filter p rows)) ≡ true) [
      | true ↦ or_right (first.number == row.number) (is_in_rows number_of row.number (filter p rows)) (there passes)
      | false ↦ there passes
    ]) rows (has_kept p rows))

abbrev AreRising : List Service → Type 0
AreRising rows = AllPairs (λ (a b : Service). a.number < b.number) rows

-- where numbers rise, who fails a test has gone with its number
gone_or_kept : (test : Service → Bool) (rows : List Service) → AreRising rows
    → All (λ (row : Service). is_in_rows number_of row.number (filter (λ (r : Service). not (test r)) rows) ≡ not (test row)) rows
gone_or_kept test rows rising k d lt =
    let row = get_or rows k d in
    let stays = λ (r : Service). not (test r) in
    let only = alone number_of rows rising k d lt in
    elim (test row) as (λ b. test row ≡ b → is_in_rows number_of row.number (filter stays rows) ≡ not b) [
      | true ↦ λ e. list_any_none (λ (r : Service). r.number == row.number) (filter stays rows)
          (λ j c low. let other = get_or (filter stays rows) j c in
          ne_eqb other.number row.number (λ same. absurd (
          let is : other ≡ row = All-filter stays (λ (r : Service). r.number ≡ row.number → r ≡ row) rows only j c low same in
          let passes : not (test other) ≡ true = filter_passes stays rows j c low in
          let fails : not (test other) ≡ false = ap stays is ∙ ap not e in
          cc)))
      | false ↦ λ e. has_kept stays rows k d lt (ap not e)
    ] refl

pub notified_of_leaving : (g : Flat) → AreRising g.services → Notifies g (purged g)
notified_of_leaving g rising =
    each_notified (map event_of_leaving (leaving g)) g.registrations
    ∙ maps_same (notified_first (map event_of_leaving (leaving g))) (notified_between g (purged g)) each g.registrations
  where
    stays : Service → Bool
    stays row = not (leaves g.handles row)

    came : filter (λ (row : Service). not (has_service row.number g)) (purged g).services ≡ []
    came = all_there g (purged g).services
        (All-filter stays (λ (row : Service). has_service row.number g ≡ true) g.services (any_own g.services))

    left : filter (λ (row : Service). not (has_service row.number (purged g))) g.services ≡ leaving g
    left = filter_alike (λ (row : Service). not (has_service row.number (purged g))) (leaves g.handles) g.services
        (All-weaker (λ (row : Service). has_service row.number (purged g) ≡ not (leaves g.handles row))
        (λ (row : Service). not (has_service row.number (purged g)) ≡ leaves g.handles row)
        (λ row is. ap not is ∙ twice (leaves g.handles row)) g.services (gone_or_kept (leaves g.handles) g.services rising))
      where
        twice : (b : Bool) → not (not b) ≡ b
        twice true = refl
        twice false = refl

    managers : events_of_manager g (purged g) ≡ map event_of_leaving (leaving g)
    managers = rw (came, left) refl

    all_managers : (rows : List Service) → All (λ (event : Event). event.service ≡ 0) (map event_of_leaving rows)
    all_managers [] = All-nil (λ (event : Event). event.service ≡ 0)
    all_managers (row ∷ rows) = All-cons (λ (event : Event). event.service ≡ 0) (event_of_leaving row) (map event_of_leaving rows) refl
        (all_managers rows)

    kept : (n : ℕ) (row : Service) → service_of g n ≡ Some row → (o : Option Service) → service_of (purged g) n ≡ o
        → events_of_service g.processes (Some row) o ≡ []
    kept n row is None after = refl
    kept n row is (Some other) after =
        let only = found_only number_of n row g.services rising is in
        let same : other ≡ row = found_has (λ (r : Service). (r.number == n) ≡ true → r ≡ row) (λ (r : Service). r.number == n) other
        (purged g).services
        (All-filter stays (λ (r : Service). (r.number == n) ≡ true → r ≡ row) g.services only) after
        (found_passes (λ (r : Service). r.number == n) other (purged g).services after) in
        subst (λ (r : Service). events_of_service g.processes (Some row) (Some r) ≡ []) (sym same)
        (quiet_row g.processes row row (unmoved row))

    found : (n : ℕ) (o : Option Service) → service_of g n ≡ o → events_of_service g.processes o (service_of (purged g) n) ≡ []
    found n None is = refl
    found n (Some row) is = kept n row is (service_of (purged g) n) refl

    each : (r : Registration) → notified_first (map event_of_leaving (leaving g)) r ≡ notified_between g (purged g) r
    each r = elim (cases_Bool (r.service == 0)) [
      | inl none ↦ ap (λ es. notified_first es r) (sym (at_manager g (purged g) r.service none ∙ managers))
      | inr some ↦ of_manager_alone r (map event_of_leaving (leaving g)) some (all_managers (leaving g))
          ∙ ap (λ es. notified_first es r) (sym (at_service g (purged g) r.service some ∙ found r.service (service_of g r.service) refl))
    ]
