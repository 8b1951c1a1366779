-- Rows in the order of their services: where those of one service begin and end, and what is told of or put among them.
use Rattle.std.proofs.Common.{drop-cons, ℕ, ◌≡◌, ◌≢◌, ◌∙◌, ◌<◌, ◌≤◌, ◌+◌, ◌++◌, ◌==◌, ◌&&◌, not, suc, zero, Bool, true, false, cond, List}
use Rattle.std.proofs.Common.{[], ◌∷◌, filter, map, take, drop, set, get_or, length, nat_le, nat_lt, ap, sym, refl, subst, arith}
use Rattle.std.specs.Prelude.{find, option_and_then, Some}
use Rattle.std.specs.List.{AllWithin, insert}
use Rattle.std.specs.List.Sorted.{IsNonDecreasingBy, IsPartitionPoint}
use Rattle.std.proofs.lemmas.Bool.{ne_eqb, le-leb, lt-leb, lt-ltb, le-ltb}
use Rattle.std.proofs.lemmas.List.{get_or-map, get_or-take, get_or-drop, length-map, length-take, length-drop, map-append, take-append-drop}
use Rattle.std.proofs.lemmas.List.{append-nil}
use Rattle.std.proofs.Common.{inl, inr}
use Rattle.std.proofs.lemmas.Bool.Decides.{leb_tells}
use Rattle.std.proofs.lemmas.List.Elements.{filter-append}
use Rattle.std.proofs.lemmas.List.Sorted.{IsNonDecreasingBy-insert}
use Rattle.scm_model.specs.declared.flat.Registration.{Registration}
use Rattle.scm_model.specs.Notices.{Event, new_registration, noted, notified, put_in, takes_event, taken_once}
use Rattle.notify_queue.specs.Queued.{notice_at, notice_of}

-- ## Lists

-- a function that leaves each element leaves the list
map_same : {X : Type 0} (f : X → X) (xs : List X) → ((k : ℕ) (d : X) → k < length xs → f (get_or xs k d) ≡ get_or xs k d) → map f xs ≡ xs
map_same f [] same = refl
map_same f (x ∷ xs) same =
    ap (λ y. y ∷ map f xs) (same 0 x (omega arith)) ∙ ap (λ ys. x ∷ ys) (map_same f xs (λ k d lt. same (suc k) d (omega (arith, lt))))

filter_all : {X : Type 0} (p : X → Bool) (xs : List X) → ((k : ℕ) (d : X) → k < length xs → p (get_or xs k d) ≡ true) → filter p xs ≡ xs
filter_all p [] all = refl
filter_all p (x ∷ xs) all =
    ap (λ b. cond b (x ∷ filter p xs) (filter p xs)) (all 0 x (omega arith))
    ∙ ap (λ ys. x ∷ ys) (filter_all p xs (λ k d lt. all (suc k) d (omega (arith, lt))))

filter_none : {X : Type 0} (p : X → Bool) (xs : List X) → ((k : ℕ) (d : X) → k < length xs → p (get_or xs k d) ≡ false) → filter p xs ≡ []
filter_none p [] none = refl
filter_none p (x ∷ xs) none =
    ap (λ b. cond b (x ∷ filter p xs) (filter p xs)) (none 0 x (omega arith))
    ∙ filter_none p xs (λ k d lt. none (suc k) d (omega (arith, lt)))

-- what holds of the elements before a place holds of the front
in_front : {X : Type 0} (P : X → Type 0) (xs : List X) (n : ℕ) → n ≤ length xs → AllWithin P xs 0 n → (k : ℕ) (d : X)
    → k < length (take n xs) → P (get_or (take n xs) k d)
in_front P xs n within all k d lt =
    let short : k < n = omega (arith, lt, length-take n xs) in
    subst P (sym (get_or-take n xs k d short)) (all k d (omega arith) short)

-- and of those from it on holds of the rest
in_rest : {X : Type 0} (P : X → Type 0) (xs : List X) (n : ℕ) → AllWithin P xs n (length xs) → (k : ℕ) (d : X) → k < length (drop n xs)
    → P (get_or (drop n xs) k d)
in_rest P xs n all k d lt =
    let short : n + k < length xs = omega (arith, lt, length-drop n xs) in
    subst P (sym (get_or-drop n xs k d)) (all (n + k) d (omega arith) short)

-- ## Events

other_service : (event : Event) (row : Registration) → row.service ≢ event.service → notified event row ≡ row
other_service event row other = rw (ne_eqb row.service event.service other) refl

pub service_noted : (event : Event) (row : Registration) → (notified event row).service ≡ row.service
service_noted event row =
    elim (takes_event event row) as (λ b. (cond b (record row { fired = event.bit; status = event.status; name = event.name })
    row).service ≡ row.service)
    [ true ↦ refl | false ↦ refl ]

pub service_taken : (number : ℕ) (row : Registration) → (taken_once number row).service ≡ row.service
service_taken number row =
    elim (row.number == number && not (row.fired == 0)) as (λ b. (cond b
    (record row {
      fired = 0;
      status = record {
        status = record {
          kind = 0;
          state = 0;
          accepted = 0;
          win32 = 0;
          specific = 0;
          checkpoint = 0;
          hint = 0;
        };
        pid = 0;
        flags = 0;
      };
      name = [];
      spent = true;
    }) row).service ≡ row.service)
    [ true ↦ refl | false ↦ refl ]

-- the rows before those of the service are told nothing
pub front_noted : (event : Event) (rows : List Registration) (n : ℕ) → n ≤ length rows
    → AllWithin (λ (row : Registration). row.service < event.service) rows 0 n → map (notified event) (take n rows) ≡ take n rows
front_noted event rows n within all =
    map_same (notified event) (take n rows) (λ k d lt.
    let below = in_front (λ (row : Registration). row.service < event.service) rows n within all k d lt in
    other_service event (get_or (take n rows) k d) (λ same. omega (arith, below, same)))

-- nor are those behind them
pub rest_noted : (event : Event) (rows : List Registration) (n : ℕ) → AllWithin (λ (row : Registration). event.service < row.service) rows n
    (length rows) → map (notified event) (drop n rows) ≡ drop n rows
rest_noted event rows n all =
    map_same (notified event) (drop n rows) (λ k d lt.
    let above = in_rest (λ (row : Registration). event.service < row.service) rows n all k d lt in
    other_service event (get_or (drop n rows) k d) (λ same. omega (arith, above, same)))

-- the rows of a service begin before they end
pub begin_before_end : (service : ℕ) (rows : List Registration) (begin end : ℕ) → begin ≤ length rows
    → IsPartitionPoint (λ (row : Registration). row.service < service) (λ (row : Registration). service ≤ row.service) rows begin
    → IsPartitionPoint (λ (row : Registration). row.service ≤ service) (λ (row : Registration). service < row.service) rows end
    → begin ≤ end
begin_before_end service rows begin end within begins ends =
    elim (leb_tells begin end) [
      | inl h ↦ h.1
      | inr h ↦
          let below = begins.0 end (new_registration 0 0 0 0) (omega arith) h.1 in
          let above = ends.1 end (new_registration 0 0 0 0) (omega arith) (omega (arith, h.1, within)) in
          absurd (omega (arith, below, above))
    ]

-- once those of the service are told all are
pub all_told : (event : Event) (rows : List Registration) (n : ℕ) → AllWithin (λ (row : Registration). event.service < row.service) rows n
    (length rows) → map (notified event) (take n rows) ++ drop n rows ≡ noted event rows
all_told event rows n all =
    ap (λ rest. map (notified event) (take n rows) ++ rest) (sym (rest_noted event rows n all))
    ∙ sym (map-append (notified event) (take n rows) (drop n rows)) ∙ ap (map (notified event)) (take-append-drop n rows)

-- ## Order

-- a change that keeps each service
pub sorted_map : (change : Registration → Registration) → ((row : Registration) → (change row).service ≡ row.service)
    → (rows : List Registration) → IsNonDecreasingBy (λ (row : Registration). row.service) rows
    → IsNonDecreasingBy (λ (row : Registration). row.service) (map change rows)
sorted_map change same rows sorted i j d le within =
    let short : j < length rows = simp length-map at within in
    let shorter : i < length rows = omega arith in
    subst (λ (a : Registration). a.service ≤ (get_or (map change rows) j d).service) (sym (get_or-map change rows i d d shorter))
    (subst (λ (b : Registration). (change (get_or rows i d)).service ≤ b.service) (sym (get_or-map change rows j d d short))
    (let r = sorted i j d le short in let e = same (get_or rows i d) in let g = same (get_or rows j d) in omega arith))

-- what is put behind the rows of its service
pub is_put : (new : Registration) (rows : List Registration) (n : ℕ) → n ≤ length rows
    → IsPartitionPoint (λ (row : Registration). row.service ≤ new.service) (λ (row : Registration). new.service < row.service) rows n
    → insert rows n new ≡ put_in new rows
is_put new rows n within (front, rest) =
    let p : Registration → Bool = λ row. nat_le row.service new.service in
    let q : Registration → Bool = λ row. nat_lt new.service row.service in
    let fp = filter_all p (take n rows) (λ k d lt. le-leb _ _ (in_front
    (λ (row : Registration). row.service ≤ new.service) rows n within front k d lt)) in
    let rp = filter_none p (drop n rows) (λ k d lt. lt-leb _ _ (in_rest
    (λ (row : Registration). new.service < row.service) rows n rest k d lt)) in
    let fq = filter_none q (take n rows) (λ k d lt. le-ltb _ _ (in_front
    (λ (row : Registration). row.service ≤ new.service) rows n within front k d lt)) in
    let rq = filter_all q (drop n rows) (λ k d lt. lt-ltb _ _ (in_rest (λ (row : Registration). new.service < row.service) rows n rest k d
    lt)) in
    let are_front : filter p rows ≡ take n rows = ap (filter p) (sym (take-append-drop n rows))
    ∙ filter-append p (take n rows) (drop n rows) ∙ ap (λ xs. filter p (take n rows) ++ xs) rp ∙ rw (append-nil) fp in
    let are_rest : filter q rows ≡ drop n rows = ap (filter q) (sym (take-append-drop n rows)) ∙ filter-append q (take n rows) (drop n rows)
    ∙ ap (λ xs. xs ++ filter q (drop n rows)) fq ∙ rq in
    ap (λ xs. xs ++ new ∷ drop n rows) (sym are_front) ∙ ap (λ xs. filter p rows ++ new ∷ xs) (sym are_rest)

pub sorted_put : (new : Registration) (rows : List Registration) (n : ℕ) → n ≤ length rows
    → IsNonDecreasingBy (λ (row : Registration). row.service) rows
    → IsPartitionPoint (λ (row : Registration). row.service ≤ new.service) (λ (row : Registration). new.service < row.service) rows n
    → IsNonDecreasingBy (λ (row : Registration). row.service) (insert rows n new)
sorted_put new rows n within sorted (front, rest) =
    IsNonDecreasingBy-insert (λ (row : Registration). row.service) rows n new sorted within (λ k d lt. front k d (omega arith) lt)
    (λ k d le lt. let above = rest k d le lt in omega arith)

-- ## From behind

changed_back : {X : Type 0} (f : X → X) (xs : List X) (i : ℕ) (d : X) → i < length xs
    → set (take (suc i) xs ++ map f (drop (suc i) xs)) i (f (get_or xs i d)) ≡ take i xs ++ map f (drop i xs)
changed_back f [] i d lt = absurd (omega (arith, lt))
changed_back f (x ∷ xs) zero d lt = refl
changed_back f (x ∷ xs) (suc i) d lt = ap (λ ys. x ∷ ys) (changed_back f xs i d (omega (arith, lt)))

read_back : {X : Type 0} (f : X → X) (xs : List X) (i : ℕ) (d : X) → i < length xs
    → get_or (take (suc i) xs ++ map f (drop (suc i) xs)) i d ≡ get_or xs i d
read_back f [] i d lt = absurd (omega (arith, lt))
read_back f (x ∷ xs) zero d lt = refl
read_back f (x ∷ xs) (suc i) d lt = read_back f xs i d (omega (arith, lt))

-- the element before those that were changed is as it was
pub was_back : {X : Type 0} (f : X → X) (xs ys : List X) (i j : ℕ) (d : X) → i + 1 ≡ j → j ≤ length xs → ys ≡ take j xs ++ map f (drop j xs)
    → get_or ys i d ≡ get_or xs i d
was_back f xs ys i j d next within is =
    let j_is : j ≡ suc i = omega (arith, next) in
    rw is (rw j_is (read_back f xs i d (omega (arith, next, within))))

-- and is changed
pub map_over_back : {X : Type 0} (f : X → X) (xs ys : List X) (i j : ℕ) (d : X) → i + 1 ≡ j → j ≤ length xs → ys ≡ take j xs
    ++ map f (drop j xs) → set ys i (f (get_or xs i d)) ≡ take i xs ++ map f (drop i xs)
map_over_back f xs ys i j d next within is =
    let j_is : j ≡ suc i = omega (arith, next) in
    rw is (rw j_is (changed_back f xs i d (omega (arith, next, within))))

-- what the first row with a number was told, from one row more
pub notice_back : (number : ℕ) (xs : List Registration) (i j : ℕ) (d : Registration) → i + 1 ≡ j → j ≤ length xs
    → cond ((get_or xs i d).number == number) (notice_at (get_or xs i d)) (notice_of number (drop j xs)) ≡ notice_of number (drop i xs)
notice_back number xs i j d next within =
    let j_is : j ≡ suc i = omega (arith, next) in
    let cons = drop-cons xs i d (omega (arith, next, within)) in
    rw (cons, j_is) (of_cons number (get_or xs i d) (drop (suc i) xs))
  where
    of_cons : (number : ℕ) (row : Registration) (rows : List Registration)
        → cond (row.number == number) (notice_at row) (notice_of number rows) ≡ notice_of number (row ∷ rows)
    of_cons number row rows =
        elim (row.number == number) as (λ b. cond b (notice_at row) (notice_of number rows) ≡ option_and_then notice_at
        (cond b (Some row) (find (λ (r : Registration). r.number == number) rows)))
        [ true ↦ refl | false ↦ refl ]
