-- The first of some events that a registration waits for.
use Rattle.std.proofs.Common.{◌≡◌, ◌∙◌, ◌==◌, true, false, cond, List, [], ◌∷◌, ◌++◌, None, Some, find, map, ap, sym, refl, eq-eqb, get_or}
use Rattle.std.specs.Prelude.{All}
use Rattle.std.proofs.lemmas.List.Elements.{All-head, All-tail}
use Rattle.scm_model.proofs.Found.{found_keeps}
use Rattle.scm_model.specs.Found.{if_found}
use Rattle.scm_model.specs.Notices.{Event, all_noted, noted, notified, takes_event}
use Rattle.scm_model.specs.declared.flat.Registration.{Registration}
use Rattle.scm_notices.specs.Events.{notified_first}
use Rattle.scm_notices.proofs.Events.{takes}

-- none of these is taken
find_none : (row : Registration) (events : List Event) → All (λ event. takes_event event row ≡ false) events
    → find (λ event. takes_event event row) events ≡ None
find_none row [] none = refl
find_none row (event ∷ events) none =
    rw (All-head (λ e. takes_event e row ≡ false) event events none)
    (find_none row events (All-tail (λ e. takes_event e row ≡ false) event events none))

pub takes_none : (row : Registration) (events : List Event) → All (λ event. takes_event event row ≡ false) events
    → notified_first events row ≡ row
takes_none row events none = rw (find_none row events none) refl

-- a registration of another service, or that was notified
pub other_service : (row : Registration) (event : Event) → (row.service == event.service) ≡ false → takes_event event row ≡ false
other_service row event other = rw other refl

pub notified_already : (row : Registration) (event : Event) → (row.fired == 0) ≡ false → takes_event event row ≡ false
notified_already row event fired =
    elim (takes_event event row) as (λ b. takes_event event row ≡ b → b ≡ false) [
      | true ↦ λ e. absurd (let none = eq-eqb row.fired 0 (takes event row e).waited in cc)
      | false ↦ λ e. refl
    ] refl

-- the event in front, and then the others
pub one_by_one : (event : Event) (events : List Event) (row : Registration)
    → notified_first (event ∷ events) row ≡ notified_first events (notified event row)
one_by_one event events row =
    let new = record row { fired = event.bit; status = event.status; name = event.name } in
    let rest = find (λ other. takes_event other row) events in
    elim (takes_event event row) as
    (λ b. takes_event event row ≡ b → notified_first (event ∷ events) row ≡ notified_first events (notified event row)) [
      | true ↦ λ e.
          let is : notified event row ≡ new = ap (λ b. cond b new row) e in
          ap (λ b. if_found notified (cond b (Some event) rest) row) e ∙ is
          ∙ sym (takes_none new events (λ k d lt. notified_already new (get_or events k d) (takes event row e).bit))
          ∙ ap (notified_first events) (sym is)
      | false ↦ λ e.
          ap (λ b. if_found notified (cond b (Some event) rest) row) e
          ∙ ap (notified_first events) (sym (ap (λ b. cond b new row) e))
    ] refl

pub in_turn : (events others : List Event) (row : Registration)
    → notified_first (events ++ others) row ≡ notified_first others (notified_first events row)
in_turn [] others row = refl
in_turn (event ∷ events) others row =
    one_by_one event (events ++ others) row ∙ in_turn events others (notified event row)
    ∙ ap (notified_first others) (sym (one_by_one event events row))

-- its service stays, and its number
pub same_service : (events : List Event) (row : Registration) → (notified_first events row).service ≡ row.service
same_service events row = found_keeps (λ (r : Registration). r.service ≡ row.service) notified
    (find (λ event. takes_event event row) events) row refl
    (λ event is. elim (takes_event event row) as
    (λ b. (cond b (record row { fired = event.bit; status = event.status; name = event.name }) row).service ≡ row.service)
    [ true ↦ refl | false ↦ refl ])

pub same_number : (events : List Event) (row : Registration) → (notified_first events row).number ≡ row.number
same_number events row = found_keeps (λ (r : Registration). r.number ≡ row.number) notified
    (find (λ event. takes_event event row) events) row refl
    (λ event is. elim (takes_event event row) as
    (λ b. (cond b (record row { fired = event.bit; status = event.status; name = event.name }) row).number ≡ row.number)
    [ true ↦ refl | false ↦ refl ])

-- ## All registrations

pub maps_same : {A : Type 0} (f g : A → A) → ((a : A) → f a ≡ g a) → (xs : List A) → map f xs ≡ map g xs
maps_same f g same [] = refl
maps_same f g same (x ∷ xs) = ap (λ y. y ∷ map f xs) (same x) ∙ ap (λ ys. g x ∷ ys) (maps_same f g same xs)

pub maps_nothing : {A : Type 0} (f : A → A) → ((a : A) → f a ≡ a) → (xs : List A) → map f xs ≡ xs
maps_nothing f same [] = refl
maps_nothing f same (x ∷ xs) = ap (λ y. y ∷ map f xs) (same x) ∙ ap (λ ys. x ∷ ys) (maps_nothing f same xs)

pub maps_twice : {A : Type 0} (f g : A → A) (xs : List A) → map f (map g xs) ≡ map (λ x. f (g x)) xs
maps_twice f g [] = refl
maps_twice f g (x ∷ xs) = ap (λ ys. f (g x) ∷ ys) (maps_twice f g xs)

pub each_notified : (events : List Event) (rows : List Registration) → all_noted events rows ≡ map (notified_first events) rows
each_notified [] rows = sym (maps_nothing (notified_first []) (λ row. refl) rows)
each_notified (event ∷ events) rows =
    each_notified events (noted event rows)
    ∙ maps_twice (notified_first events) (notified event) rows
    ∙ maps_same (λ row. notified_first events (notified event row)) (notified_first (event ∷ events))
    (λ row. sym (one_by_one event events row)) rows
