-- Places in the list of what becomes due: what the changes keep of them.
use Rattle.std.proofs.Common.{ℕ, ◌≡◌, ◌∙◌, ◌≤◌, ◌<◌, ◌+◌, ◌-◌, ◌==◌, ◌||◌, not, Bool, true, false, cond, List, [], ◌∷◌, ◌++◌, filter, map}
use Rattle.std.proofs.Common.{length, ap, sym, refl, arith, eqb-true, length-append}
use Rattle.std.specs.List.{list_any}
use Rattle.std.specs.Prelude.{min, Option, None, Some}
use Rattle.std.proofs.lemmas.Bool.{false≢true}
use Rattle.std.proofs.lemmas.List.Filters.{length-filter_both}
use Rattle.std.proofs.lemmas.List.Elements.{filter-append}
use Rattle.scm_model.specs.declared.flat.Due.{Due}
use Rattle.scm_model.specs.declared.flat.DueKind.{DueKind}
use Rattle.scm_model.specs.declared.flat.DueKind.TheVariants as dues
use Rattle.scm_model.specs.declared.flat.Service.{Service}
use Rattle.scm_model.specs.Found.{if_found}
use Rattle.scm_model.specs.declared.flat.Plan.{Plan}
use Rattle.due_list.specs.Dues.{Dues, is_kept, keeping, taken_out}
use Rattle.start_plan.specs.Settle.{is_due_still, is_undecided}
use Rattle.scm_rules.specs.Due.{beside, is_due_of, of_others}
use Rattle.scm_tables.specs.Places.{HasPlaces, places, still_due, strays}

-- ## Filters

filter_same : {X : Type 0} (p q : X → Bool) → ((x : X) → p x ≡ q x) → (xs : List X) → filter p xs ≡ filter q xs
filter_same p q same [] = refl
filter_same p q same (x ∷ xs) =
    ap (λ b. cond b (x ∷ filter p xs) (filter p xs)) (same x) ∙ ap (λ ys. cond (q x) (x ∷ ys) ys) (filter_same p q same xs)

all_kept : {X : Type 0} (xs : List X) → filter (λ x. true) xs ≡ xs
all_kept [] = refl
all_kept (x ∷ xs) = ap (λ ys. x ∷ ys) (all_kept xs)

pub fewer : {X : Type 0} (p : X → Bool) (xs : List X) → length (filter p xs) ≤ length xs
fewer p xs = omega (arith, length-filter_both p (λ x. not (p x)) (λ x. refl) xs)

-- in either order
swapped : {X : Type 0} (p q : X → Bool) (xs : List X) → filter p (filter q xs) ≡ filter q (filter p xs)
swapped p q [] = refl
swapped p q (x ∷ xs) =
    let rest = swapped p q xs in
    elim (q x) as (λ b. q x ≡ b → filter p (cond b (x ∷ filter q xs) (filter q xs))
    ≡ filter q (cond (p x) (x ∷ filter p xs) (filter p xs))) [
      | true ↦ λ e. elim (p x) as (λ b. cond b (x ∷ filter p (filter q xs)) (filter p (filter q xs)) ≡ filter q
          (cond b (x ∷ filter p xs) (filter p xs))) [
            | true ↦ ap (λ ys. x ∷ ys) rest ∙ sym (ap (λ b. cond b (x ∷ filter q (filter p xs)) (filter q (filter p xs))) e)
            | false ↦ rest
          ]
      | false ↦ λ e. elim (p x) as (λ b. filter p (filter q xs) ≡ filter q (cond b (x ∷ filter p xs) (filter p xs))) [
        | true ↦ rest ∙ sym (ap (λ b. cond b (x ∷ filter q (filter p xs)) (filter q (filter p xs))) e)
        | false ↦ rest
      ]
    ] refl

-- of fewer rows no more pass
pub fewer_pass : {X : Type 0} (p q : X → Bool) (xs : List X) → length (filter p (filter q xs)) ≤ length (filter p xs)
fewer_pass p q xs = rw (swapped p q xs) (fewer q (filter p xs))

-- ## One row of each service at most

abbrev pub of_service : ℕ → List Due → List Due
of_service number rows = filter (λ (due : Due). is_due_of number due.kind) rows

abbrev pub IsOneEach : List Due → Type 0
IsOneEach rows = (number : ℕ) → length (of_service number rows) ≤ 1

one_of_fewer : (p : Due → Bool) (rows : List Due) → IsOneEach rows → IsOneEach (filter p rows)
one_of_fewer p rows one number = omega (arith, fewer_pass (λ (due : Due). is_due_of number due.kind) p rows, one number)

parted : (number : ℕ) (rows : List Due) → length (of_service number rows) + length (of_others number rows) ≡ length rows
parted number rows = length-filter_both (λ (due : Due). is_due_of number due.kind) (λ (due : Due). not (is_due_of number due.kind))
    (λ due. refl) rows

-- ## Rows of no service

abbrev is_stray : List Service → Due → Bool
is_stray services due = not (list_any (λ (row : Service). is_due_of row.number due.kind) services)

both : {X : Type 0} (p q : X → Bool) (xs : List X) → filter (λ x. not (p x || q x)) xs ≡ filter (λ x. not (q x))
    (filter (λ x. not (p x)) xs)
both p q [] = refl
both p q (x ∷ xs) =
    elim (p x) as (λ b. cond (not (b || q x)) (x ∷ filter (λ y. not (p y || q y)) xs) (filter (λ y. not (p y || q y)) xs)
    ≡ filter (λ y. not (q y)) (cond (not b) (x ∷ filter (λ y. not (p y)) xs) (filter (λ y. not (p y)) xs))) [
      | true ↦ both p q xs
      | false ↦ ap (λ ys. cond (not (q x)) (x ∷ ys) ys) (both p q xs)
    ]

strays_of : (row : Service) (services : List Service) (rows : List Due)
    → strays (row ∷ services) rows ≡ strays services (of_others row.number rows)
strays_of row services rows = both (λ (due : Due). is_due_of row.number due.kind)
    (λ (due : Due). list_any (λ (r : Service). is_due_of r.number due.kind) services) rows

places_of : (row : Service) (services : List Service) (rows : List Due) → places (row ∷ services) rows ≡ 1
    + places services (of_others row.number rows)
places_of row services rows = omega (arith, ap (λ (ds : List Due). length ds) (strays_of row services rows))

no_strays : (rows : List Due) → places [] rows ≡ length rows
no_strays rows = (let e : length (strays [] rows) ≡ length rows = ap (λ (ds : List Due). length ds) (all_kept rows) in omega (arith, e))

-- ## Plans that are decided

kind_kept : (plans : List Plan) (kind : DueKind) → is_kept (λ n. list_any (is_undecided n) plans) kind ≡ is_due_still plans kind
kind_kept plans (dues.Deadline plan) = refl
kind_kept plans (dues.Start service) = refl
kind_kept plans (dues.Command service) = refl
kind_kept plans (dues.Reboot service) = refl

pub plans_kept : (plans : List Plan) (d : Dues) → keeping (λ n. list_any (is_undecided n) plans) d ≡ still_due plans d
plans_kept plans d =
    ap (λ (rows : List Due). record d { rows = rows })
    (filter_same (λ (due : Due). is_kept (λ n. list_any (is_undecided n) plans) due.kind) (λ (due : Due). is_due_still plans due.kind)
    (λ due. kind_kept plans due.kind) d.rows)

-- ## Places

-- all rows stand in places
pub within : (services : List Service) (rows : List Due) → IsOneEach rows → length rows ≤ places services rows
within [] rows one = omega (arith, no_strays rows)
within (row ∷ services) rows one =
    omega (
      arith,
      parted row.number rows,
      one row.number,
      places_of row services rows,
      within services (of_others row.number rows) (one_of_fewer _ rows one),
    )

-- without the rows of a service that is there a place is free
pub one_free : (number : ℕ) (services : List Service) (rows : List Due) → list_any (λ (row : Service). number == row.number) services ≡ true
    → IsOneEach rows
    → length (of_others number rows) + 1 ≤ places services rows
one_free number [] rows there one = absurd cc
one_free number (row ∷ services) rows there one =
    let others = of_others row.number rows in
    elim (number == row.number) as (λ b. number == row.number ≡ b → b || list_any (λ (r : Service). number == r.number) services ≡ true
    → length (of_others number rows) + 1 ≤ places (row ∷ services) rows) [
      | true ↦ λ e any.
          let same = ap (λ (n : ℕ). length (of_others n rows)) (eqb-true number row.number e) in
          omega (arith, same, places_of row services rows, within services others (one_of_fewer _ rows one))
      | false ↦ λ e any.
          let rest = of_others number rows in
          let order = ap (λ (ds : List Due). length ds) (swapped (λ (due : Due). not (is_due_of row.number due.kind))
          (λ (due : Due). not (is_due_of number due.kind)) rows) in
          omega (
            arith,
            parted row.number rest,
            one_of_fewer (λ (due : Due). not (is_due_of number due.kind)) rows one row.number,
            order,
            places_of row services rows,
            one_free number services others any (one_of_fewer _ rows one),
          )
    ] refl there

-- ## Other rows

pub fewer_places : (p : Due → Bool) (services : List Service) (rows : List Due) → places services (filter p rows) ≤ places services rows
fewer_places p services rows = omega (arith, fewer_pass (is_stray services) p rows)

pub filter_keeps : (p : Due → Bool) {services : List Service} {rows : List Due} {capacity : ℕ} → HasPlaces services rows capacity
    → HasPlaces services (filter p rows) capacity
filter_keeps p {services} {rows} {capacity} has = record {
  one = one_of_fewer p rows has.one;
  fit = omega (arith, fewer_places p services rows, has.fit);
}

pub left_keeps_places : (found : Option Due) (services : List Service) (d : Dues) → HasPlaces services d.rows d.capacity
    → HasPlaces services (if_found taken_out found d).rows (if_found taken_out found d).capacity
left_keeps_places None services d has = has
left_keeps_places (Some row) services d has = filter_keeps (λ (other : Due). not (other.number == row.number)) has

pub left_free : (found : Option Due) (services : List Service) (d : Dues)
    → d.capacity - places services d.rows ≤ (if_found taken_out found d).capacity - places services (if_found taken_out found d).rows
left_free None services d = omega arith
left_free (Some row) services d = omega (arith, fewer_places (λ (other : Due). not (other.number == row.number)) services d.rows)

-- a deadline takes a place more
pub deadline_places : (services : List Service) (rows : List Due) (due : Due) → ((number : ℕ) → is_due_of number due.kind ≡ false)
    → places services (rows ++ due ∷ []) ≡ places services rows + 1
deadline_places services rows due none =
    let parts = ap (λ (ds : List Due). length ds) (filter-append (is_stray services) rows (due ∷ [])) in
    let stray : is_stray services due ≡ true = ap not (any_same services) in
    let one : length (strays services (due ∷ [])) ≡ 1 = ap (λ b. length (cond b (due ∷ []) [])) stray in
    omega (arith, parts, length-append (strays services rows) (strays services (due ∷ [])), one)
  where
    any_same : (ss : List Service) → list_any (λ (row : Service). is_due_of row.number due.kind) ss ≡ false
    any_same [] = refl
    any_same (s ∷ ss) = ap (λ b. b || list_any (λ (row : Service). is_due_of row.number due.kind) ss) (none s.number) ∙ any_same ss

-- it takes a free one
pub one_fewer : (services : List Service) (rows : List Due) (capacity moment number plan : ℕ) → 1 ≤ capacity - places services rows
    → capacity - places services (rows ++ record { moment = moment; number = number; kind = dues.Deadline plan } ∷ [])
    + 1 ≡ capacity - places services rows
one_fewer services rows capacity moment number plan room = omega (
  arith,
  room,
  deadline_places services rows (record { moment = moment; number = number; kind = dues.Deadline plan }) (λ n. refl),
)

one_more : (number : ℕ) (rows : List Due) (due : Due) → length (of_service number (rows ++ due ∷ [])) ≡ length (of_service number rows)
    + length (of_service number (due ∷ []))
one_more number rows due =
    ap (λ (ds : List Due). length ds) (filter-append (λ (d : Due). is_due_of number d.kind) rows (due ∷ []))
    ∙ length-append (of_service number rows) (of_service number (due ∷ []))

pub deadline_keeps : {services : List Service} {rows : List Due} {capacity : ℕ} (due : Due)
    → ((number : ℕ) → is_due_of number due.kind ≡ false) → HasPlaces services rows capacity
    → places services rows + 1 ≤ capacity → HasPlaces services (rows ++ due ∷ []) capacity
deadline_keeps {services} {rows} {capacity} due none has free = record {
  one = λ number.
      let no : length (of_service number (due ∷ [])) ≡ 0 = ap (λ b. length (cond b (due ∷ []) [])) (none number) in
      omega (arith, one_more number rows due, no, has.one number);
  fit = omega (arith, deadline_places services rows due none, free);
}

-- a row of a service that is there, in place of those that it has
pub put_keeps : {services : List Service} {rows : List Due} {capacity : ℕ} (service : ℕ) (due : Due)
    → ((number : ℕ) → is_due_of number due.kind ≡ (service == number))
    → list_any (λ (row : Service). service == row.number) services ≡ true → HasPlaces services rows capacity
    → HasPlaces services (of_others service rows ++ due ∷ []) capacity
put_keeps {services} {rows} {capacity} service due is there has =
    let others = of_others service rows in
    record {
      one = λ number.
          elim (service == number) as (λ b. service == number ≡ b → length (of_service number (others ++ due ∷ [])) ≤ 1) [
            | true ↦ λ e.
                let gone : length (of_service service others) ≡ 0 = ap (λ (ds : List Due). length ds)
                (none_left (λ (d : Due). is_due_of service d.kind) rows) in
                let same = ap (λ (n : ℕ). length (of_service n others)) (eqb-true service number e) in
                omega (arith, one_more number others due, gone, same, fewer (λ (d : Due). is_due_of number d.kind) (due ∷ []))
            | false ↦ λ e.
                let no : length (of_service number (due ∷ [])) ≡ 0 = ap (λ b. length (cond b (due ∷ []) [])) (is number ∙ e) in
                omega (
                  arith,
                  one_more number others due,
                  no,
                  one_of_fewer
                      (λ (d : Due). not (is_due_of service d.kind)) rows has.one number,
                )
          ] refl;
      fit =
          let parts = ap (λ (ds : List Due). length ds) (filter-append (is_stray services) others (due ∷ [])) in
          let known : is_stray services due ≡ false = ap not (any_same services ∙ there) in
          let none : length (strays services (due ∷ [])) ≡ 0 = ap (λ b. length (cond b (due ∷ []) [])) known in
          omega (
            arith,
            parts,
            length-append (strays services others) (strays services (due ∷ [])),
            none,
            fewer_places (λ (d : Due). not (is_due_of service d.kind)) services rows,
            has.fit,
          );
    }
  where
    any_same : (ss : List Service) → list_any (λ (row : Service). is_due_of row.number due.kind) ss ≡ list_any
        (λ (row : Service). service == row.number) ss
    any_same [] = refl
    any_same (s ∷ ss) = ap (λ b. b || list_any (λ (row : Service). is_due_of row.number due.kind) ss) (is s.number)
        ∙ ap (λ b. (service == s.number) || b) (any_same ss)

    none_left : {X : Type 0} (p : X → Bool) (xs : List X) → filter p (filter (λ x. not (p x)) xs) ≡ []
    none_left p [] = refl
    none_left p (x ∷ xs) =
        elim (p x) as (λ b. p x ≡ b → filter p (cond (not b) (x ∷ filter (λ y. not (p y)) xs) (filter (λ y. not (p y)) xs)) ≡ []) [
          | true ↦ λ e. none_left p xs
          | false ↦ λ e. ap (λ b. cond b (x ∷ filter p (filter (λ y. not (p y)) xs))
              (filter p (filter (λ y. not (p y)) xs))) e ∙ none_left p xs
        ] refl

-- ## Other services

-- a change that keeps each number
pub places_map : (change : Service → Service) → ((row : Service) → (change row).number ≡ row.number)
    → (services : List Service) (rows : List Due) → places (map change services) rows ≡ places services rows
places_map change same [] rows = refl
places_map change same (row ∷ services) rows =
    places_of (change row) (map change services) rows
    ∙ ap (λ (n : ℕ). 1 + places (map change services) (of_others n rows)) (same row)
    ∙ ap (λ (n : ℕ). 1 + n) (places_map change same services (of_others row.number rows))
    ∙ sym (places_of row services rows)

pub map_keeps : (change : Service → Service) → ((row : Service) → (change row).number ≡ row.number)
    → {services : List Service} {rows : List Due} {capacity : ℕ}
    → HasPlaces services rows capacity → HasPlaces (map change services) rows capacity
map_keeps change same {services} {rows} {capacity} has = record {
  one = has.one;
  fit = omega (arith, places_map change same services rows, has.fit);
}

pub more_services : (services : List Service) (row : Service) (rows : List Due) → places (services ++ row ∷ []) rows ≤ places services rows
    + 1
more_services [] row rows = omega (
  arith,
  places_of row [] rows,
  no_strays rows,
  no_strays (of_others row.number rows),
  fewer (λ (due : Due). not (is_due_of row.number due.kind)) rows,
)
more_services (s ∷ services) row rows =
    omega (arith, places_of s (services ++ row ∷ []) rows, places_of s services rows, more_services services row (of_others s.number rows))

pub push_keeps : {services : List Service} {rows : List Due} {capacity : ℕ} (row : Service) → HasPlaces services rows capacity
    → places services rows + 1 ≤ capacity
    → HasPlaces (services ++ row ∷ []) rows capacity
push_keeps {services} {rows} {capacity} row has free = record { one = has.one; fit = omega (arith, more_services services row rows, free) }

-- the row of a service that has gone is of nobody
one_stray_more : (number : ℕ) (services : List Service) (rows : List Due) → IsOneEach rows → length (strays services rows) ≤ 1
    + length (strays services (of_others number rows))
one_stray_more number services rows one =
    let order = ap (λ (ds : List Due). length ds) (swapped (λ (due : Due). not (is_due_of number due.kind)) (is_stray services) rows) in
    omega (arith, parted number (strays services rows), one_of_fewer (is_stray services) rows one number, order)

pub services_left : (keep : Service → Bool) (services : List Service) (rows : List Due) → IsOneEach rows
    → places (filter keep services) rows ≤ places services rows
services_left keep [] rows one = omega arith
services_left keep (row ∷ services) rows one =
    let others = of_others row.number rows in
    elim (keep row) as (λ b. places (cond b (row ∷ filter keep services) (filter keep services)) rows ≤ places (row ∷ services) rows) [
      | true ↦ omega (
        arith,
        places_of row (filter keep services) rows,
        places_of row services rows,
        services_left keep services others (one_of_fewer _ rows one),
      )
      | false ↦ omega (
        arith,
        places_of row services rows,
        services_left keep services rows one,
        one_stray_more row.number services rows one,
      )
    ]

pub left_keeps : (keep : Service → Bool) {services : List Service} {rows : List Due} {capacity : ℕ} → HasPlaces services rows capacity
    → HasPlaces (filter keep services) rows capacity
left_keeps keep {services} {rows} {capacity} has = record {
  one = has.one;
  fit = omega (arith, services_left keep services rows has.one, has.fit);
}

-- ## A row of some kind

no_deadline : (plan : ℕ) (services : List Service) → list_any (λ (row : Service). is_due_of row.number (dues.Deadline plan)) services ≡ true
    → ⊥
no_deadline plan [] there = false≢true there
no_deadline plan (row ∷ services) there = no_deadline plan services there

-- a row of a service that is there finds a place
pub kind_fits : (kind : DueKind) {services : List Service} {rows : List Due} {capacity : ℕ}
    → list_any (λ (row : Service). is_due_of row.number kind) services ≡ true → HasPlaces services rows capacity
    → length (beside kind rows) < capacity
kind_fits (dues.Deadline plan) {services} there has = absurd (no_deadline plan services there)
kind_fits (dues.Start service) {services} {rows} there has = omega (arith, one_free service services rows there has.one, has.fit)
kind_fits (dues.Command service) {services} {rows} there has = omega (arith, one_free service services rows there has.one, has.fit)
kind_fits (dues.Reboot service) {services} {rows} there has = omega (arith, one_free service services rows there has.one, has.fit)

pub kind_keeps : (kind : DueKind) (moment number : ℕ) {services : List Service} {rows : List Due} {capacity : ℕ}
    → list_any (λ (row : Service). is_due_of row.number kind) services ≡ true → HasPlaces services rows capacity
    → HasPlaces services (beside kind rows ++ record { moment = moment; number = number; kind = kind } ∷ []) capacity
kind_keeps (dues.Deadline plan) moment number {services} there has = absurd (no_deadline plan services there)
kind_keeps (dues.Start service) moment number there has = put_keeps service _ (λ n. refl) there has
kind_keeps (dues.Command service) moment number there has = put_keeps service _ (λ n. refl) there has
kind_keeps (dues.Reboot service) moment number there has = put_keeps service _ (λ n. refl) there has

-- ## Room

-- what is reserved beside a place for each service is free
pub reserved : (services : List Service) (rows : List Due) (capacity more : ℕ) → length rows + (length services + more) ≤ capacity
    → more ≤ capacity - places services rows
reserved services rows capacity more room = omega (arith, room, fewer (is_stray services) rows)

pub both_free : (a b : ℕ) → 1 ≤ a → 1 ≤ b → 1 ≤ min a b
both_free a b one two = omega (arith, one, two)
