-- What a need leads to, once a row is put in: numbers below the row's own, its own, and those above it.
use Rattle.std.proofs.Common.{ℕ, Option, ◌≡◌, ◌<◌, ◌≤◌, ◌∙◌, Bool, true, false, cond, zero, suc, List, [], ◌∷◌, ◌++◌, Some, None, refl, sym}
use Rattle.std.proofs.Common.{ap, subst, eqb, length, get_or, take, drop, filter, map, arith, inl, inr}
use Rattle.std.specs.Prelude.{IfSome, option_and_then}
use Rattle.std.specs.List.{AllByRecursion}
use Rattle.std.specs.List.Sorted.{IsNonDecreasingBy}
use Rattle.std.proofs.lemmas.Bool.{eq-eqb, ne_eqb, lt-ltb, le-ltb, cases_order}
use Rattle.std.proofs.lemmas.List.{append-nil}
use Rattle.std.proofs.lemmas.List.Sorted.{IsNonDecreasingBy-from_default}
use Rattle.scm_model.specs.declared.flat.Need.{Need}
use Rattle.scm_model.specs.declared.flat.NeedRow.{NeedRow}
use Rattle.scm_model.specs.Needs.{instead, is_met, met_by, numbers_of, with_row}
use Rattle.row_slab.specs.Rowed.{AreRisingBy}
use Rattle.number_lists.specs.Rising.{AreRising}
use Rattle.number_lists.proofs.Places.{rises}
use Rattle.dependency_index.specs.Kept.{key_of, is_row}
use Rattle.dependency_index.specs.Resolved.{AreListed, above, all_of, below, own_number}
use Rattle.dependency_index.specs.declared.graph.Resolved.{Resolved}
use Rattle.dependency_index.specs.Needs.{number_if_met}
use Rattle.dependency_index.proofs.Lists.{has_kept, or_right, try_append}
use Rattle.scm_model.specs.Order.{try_all, try_some}
use Rattle.dependency_index.proofs.Listing.{found_above, numbers_above, numbers_if, unmapped}
use Rattle.dependency_index.proofs.Shelves.{had_none, has_found, none_instead}
use Rattle.scm_text.specs.Numbers.{has}

-- ## Parts of rising numbers

none_below : (n : ℕ) (xs : List ℕ) → AllByRecursion (λ x. n < x) xs → below n xs ≡ []
none_below n [] all = refl
none_below n (x ∷ xs) all = rw (le-ltb x n (omega (arith, all.0))) (none_below n xs all.1)

pub all_above : (n : ℕ) (xs : List ℕ) → AllByRecursion (λ x. n < x) xs → above n xs ≡ xs
all_above n [] all = refl
all_above n (x ∷ xs) all = rw (lt-ltb n x all.0) (ap (λ rest. x ∷ rest) (all_above n xs all.1))

pub front_is : (p : ℕ → Bool) (xs : List ℕ) (k : ℕ) → ((i d : ℕ) → i < k → p (get_or xs i d) ≡ true)
    → ((i d : ℕ) → k ≤ i → i < length xs → p (get_or xs i d) ≡ false) → k ≤ length xs
    → take k xs ≡ filter p xs
front_is p [] zero passes fails le = refl
front_is p [] (suc k) passes fails le = refl
front_is p (x ∷ xs) zero passes fails le = rw (fails 0 0 (omega arith) (omega arith))
    (front_is p xs zero (λ i d lt. absurd (omega (arith, lt))) (λ i d from within. fails (suc i) d (omega arith) (omega (arith, within)))
    (omega arith))
front_is p (x ∷ xs) (suc k) passes fails le = rw (passes 0 0 (omega arith))
    (ap (λ rest. x ∷ rest) (front_is p xs k (λ i d lt. passes (suc i) d (omega (arith, lt)))
    (λ i d from within. fails (suc i) d (omega (arith, from)) (omega (arith, within))) (omega (arith, le))))

pub rest_is : (p : ℕ → Bool) (xs : List ℕ) (k : ℕ) → ((i d : ℕ) → i < k → p (get_or xs i d) ≡ false)
    → ((i d : ℕ) → k ≤ i → i < length xs → p (get_or xs i d) ≡ true) → k ≤ length xs
    → drop k xs ≡ filter p xs
rest_is p [] zero fails passes le = refl
rest_is p [] (suc k) fails passes le = refl
rest_is p (x ∷ xs) zero fails passes le = rw (passes 0 0 (omega arith) (omega arith))
    (ap (λ rest. x ∷ rest) (rest_is p xs zero (λ i d lt. absurd (omega (arith, lt)))
    (λ i d from within. passes (suc i) d (omega arith) (omega (arith, within))) (omega arith)))
rest_is p (x ∷ xs) (suc k) fails passes le = rw (fails 0 0 (omega arith))
    (rest_is p xs k (λ i d lt. fails (suc i) d (omega (arith, lt))) (λ i d from within. passes (suc i) d (omega (arith, from))
    (omega (arith, within))) (omega (arith, le)))

pub rising_up : (xs : List ℕ) → AreRising xs → IsNonDecreasingBy (λ (x : ℕ). x) xs
rising_up xs rising = IsNonDecreasingBy-from_default (λ (x : ℕ). x) xs 0 (λ i j le within.
    elim (cases_order i j) [
      | inl same ↦ omega (arith, ap (λ (k : ℕ). get_or xs k 0) same)
      | inr (inl less) ↦ omega (arith, rises xs i j rising less within)
      | inr (inr more) ↦ absurd (omega arith)
    ])

-- ## Rows in order of number

pub rising_numbers : (p : NeedRow → Bool) (rows : List NeedRow) → AreRisingBy key_of rows → AreRising (numbers_if p rows)
rising_numbers p [] rising = tt
rising_numbers p (row ∷ rows) rising =
    elim (p row) as (λ b. AreRising (map key_of (cond b (row ∷ filter p rows) (filter p rows)))) [
      | true ↦ (numbers_above p row.number rows rising.0, rising_numbers p rows rising.1)
      | false ↦ rising_numbers p rows rising.1
    ]

own_is : (need : Need) (new : NeedRow) (rest : List ℕ) → own_number (number_if_met need new)
    ++ rest ≡ cond (is_met need new) (new.number ∷ rest) rest
own_is need new rest = elim (is_met need new) as (λ b. own_number (cond b (Some new.number) None) ++ rest ≡ cond b (new.number ∷ rest) rest)
    [ true ↦ refl | false ↦ refl ]

parted : (need : Need) (rows : List NeedRow) (new : NeedRow) → AreRisingBy key_of rows → has (numbers_of rows) new.number ≡ true
    → met_by (map (instead new) rows) need ≡ below new.number (met_by rows need)
    ++ (own_number (number_if_met need new) ++ above new.number (met_by rows need))
parted need [] new rising had = absurd (cc had)
parted need (row ∷ rows) new rising had =
    let n = new.number in
    let p = is_met need in
    elim (cases_order row.number n) [
      | inl same ↦
          let is : is_row n row ≡ true = eq-eqb row.number n same in
          let later = subst (λ m. AllByRecursion (λ (other : NeedRow). m < other.number) rows) same rising.0 in
          let over = numbers_above p n rows later in
          let lower : below n (numbers_if p (row ∷ rows)) ≡ [] = (elim (p row) as (λ b. below n
          (map key_of (cond b (row ∷ filter p rows) (filter p rows))) ≡ []) [
            | true ↦ rw (le-ltb row.number n (omega (arith, same))) (none_below n (numbers_if p rows) over)
            | false ↦ none_below n (numbers_if p rows) over
          ]) in
          let upper : above n (numbers_if p (row ∷ rows)) ≡ numbers_if p rows =
          (elim (p row) as (λ b. above n (map key_of (cond b (row ∷ filter p rows) (filter p rows))) ≡ numbers_if p rows) [
            | true ↦ rw (le-ltb n row.number (omega (arith, same))) (all_above n (numbers_if p rows) over)
            | false ↦ all_above n (numbers_if p rows) over
          ]) in
          rw (is, unmapped n (λ (r : NeedRow). new) rows later, lower, upper, own_is need new (numbers_if p rows))
          (elim (p new) as (λ b. map key_of (cond b (new ∷ filter p rows) (filter p rows)) ≡ cond b (n ∷ numbers_if p rows)
          (numbers_if p rows)) [ true ↦ refl | false ↦ refl ])
      | inr (inl less) ↦
          let other : is_row n row ≡ false = ne_eqb row.number n (omega (arith, less)) in
          let step = parted need rows new rising.1 (rw (ne_eqb n row.number (omega (arith, less))) at had) in
          rw other
          (elim (p row) as (λ b. map key_of (cond b (row ∷ filter p (map (instead new) rows)) (filter p (map (instead new) rows)))
          ≡ below n (map key_of (cond b (row ∷ filter p rows) (filter p rows)))
          ++ (own_number (number_if_met need new) ++ above n (map key_of (cond b (row ∷ filter p rows) (filter p rows))))) [
            | true ↦ rw (lt-ltb row.number n less, le-ltb n row.number (omega (arith, less))) (ap (λ rest. row.number ∷ rest) step)
            | false ↦ step
          ])
      | inr (inr more) ↦
          let next : has (numbers_of rows) n ≡ true = rw (ne_eqb n row.number (omega (arith, more))) at had in
          let found = has_found n rows next in
          absurd (omega (arith, more, found_above row.number n rows found.0 rising.0 found.1))
    ]

pub split_met : (need : Need) (rows : List NeedRow) (new : NeedRow) → AreRisingBy key_of rows → has (numbers_of rows) new.number ≡ true
    → below new.number (met_by rows need) ++ (own_number (number_if_met need new) ++ above new.number (met_by rows need)) ≡ met_by
    (with_row rows new) need
split_met need rows new rising had =
    let whole : with_row rows new ≡ map (instead new) rows = ap (λ b. map (instead new) rows ++ cond b [] (new ∷ [])) had
    ∙ append-nil (map (instead new) rows) in
    sym (ap (λ rs. met_by rs need) whole ∙ parted need rows new rising had)

pushed_met : (need : Need) (rows : List NeedRow) (new : NeedRow) → met_by (rows ++ new ∷ []) need ≡ met_by rows need
    ++ (own_number (number_if_met need new) ++ [])
pushed_met need [] new = elim (is_met need new) as (λ b. map key_of (cond b (new ∷ []) []) ≡ own_number (cond b (Some new.number) None)
    ++ []) [ true ↦ refl | false ↦ refl ]
pushed_met need (row ∷ rows) new =
    elim (is_met need row) as (λ b. map key_of (cond b (row ∷ filter (is_met need) (rows ++ new ∷ []))
    (filter (is_met need) (rows ++ new ∷ [])))
    ≡ map key_of (cond b (row ∷ filter (is_met need) rows) (filter (is_met need) rows)) ++ (own_number (number_if_met need new) ++ [])) [
      | true ↦ ap (λ rest. row.number ∷ rest) (pushed_met need rows new)
      | false ↦ pushed_met need rows new
    ]

pub added_met : (need : Need) (rows : List NeedRow) (new : NeedRow) → has (numbers_of rows) new.number ≡ false
    → met_by rows need ++ (own_number (number_if_met need new) ++ []) ≡ met_by (with_row rows new) need
added_met need rows new fresh =
    let none = had_none new.number rows fresh in
    let whole : with_row rows new ≡ rows ++ new ∷ [] = ap (λ b. map (instead new) rows ++ cond b [] (new ∷ [])) fresh
    ∙ ap (λ l. l ++ new ∷ []) (none_instead new rows none) in
    sym (ap (λ rs. met_by rs need) whole ∙ pushed_met need rows new)

-- ## All of them are listed

pub all_had : (xs : List ℕ) (P : ℕ → Type 0) → ((y : ℕ) → has xs y ≡ true → P y) → AllByRecursion P xs
all_had [] P each = tt
all_had (x ∷ xs) P each = (each x (rw (eq-eqb x x refl) refl), all_had xs P (λ y h. each y (or_right (eqb y x) (has xs y) h)))

all_front : (P : ℕ → Type 0) (xs ys : List ℕ) → AllByRecursion P (xs ++ ys) → AllByRecursion P xs
all_front P [] ys all = tt
all_front P (x ∷ xs) ys all = (all.0, all_front P xs ys all.1)

all_rest : (P : ℕ → Type 0) (xs ys : List ℕ) → AllByRecursion P (xs ++ ys) → AllByRecursion P ys
all_rest P [] ys all = all
all_rest P (x ∷ xs) ys all = all_rest P xs ys all.1

all_own : (P : ℕ → Type 0) (own : Option ℕ) (ys : List ℕ) → AllByRecursion P (own_number own ++ ys) → IfSome own P
all_own P None ys all = tt
all_own P (Some number) ys all = all.0

parts_listed : (rows : List NeedRow) (need : Need) (met : Resolved) → all_of met ≡ met_by rows need → AreListed rows met
parts_listed rows need met is =
    let P : ℕ → Type 0 = λ number. has (numbers_of rows) number ≡ true in
    let all : AllByRecursion P (all_of met) = rw is (all_had (met_by rows need) P (λ y h. has_kept (is_met need) rows y h)) in
    let behind = all_rest P met.before.now (own_number met.own ++ met.after.now) all in
    record {
      before = all_front P met.before.now (own_number met.own ++ met.after.now) all;
      own = all_own P met.own met.after.now behind;
      after = all_rest P (own_number met.own) met.after.now behind;
    }

pub some_listed : (rows : List NeedRow) (need : Need) (met : Option Resolved) → IfSome met (λ m. all_of m ≡ met_by rows need)
    → IfSome met (λ m. AreListed rows m)
some_listed rows need None is = tt
some_listed rows need (Some met) is = parts_listed rows need met is

-- ## Going over them

go_own : (go : List ℕ → ℕ → Option (List ℕ)) (d : List ℕ) (own : Option ℕ) → try_all go d (own_number own) ≡ try_some go d own
go_own go d None = refl
go_own go d (Some number) = elim (go d number) as (λ o. option_and_then (λ more. Some more) o ≡ o) [ None ↦ refl | Some m ↦ refl ]

go_parts : (go : List ℕ → ℕ → Option (List ℕ)) (d : List ℕ) (met : Resolved)
    → try_all go d (all_of met) ≡ option_and_then (λ (e : List ℕ). option_and_then (λ f. try_all go f met.after.now)
    (try_some go e met.own)) (try_all go d met.before.now)
go_parts go d met =
    try_append go d met.before.now (own_number met.own ++ met.after.now)
    ∙ elim (try_all go d met.before.now) as (λ o. option_and_then (λ e. try_all go e (own_number met.own ++ met.after.now)) o ≡
    option_and_then (λ (e : List ℕ). option_and_then (λ f. try_all go f met.after.now) (try_some go e met.own)) o) [
      | None ↦ refl
      | Some e ↦ try_append go e (own_number met.own) met.after.now ∙ ap (option_and_then (λ f. try_all go f met.after.now))
          (go_own go e met.own)
    ]

pub go_first : (go : List ℕ → ℕ → Option (List ℕ)) (d : List ℕ) (met : Resolved) → try_all go d met.before.now ≡ None
    → try_all go d (all_of met) ≡ None
go_first go d met first = go_parts go d met ∙ rw first refl

pub go_own_none : (go : List ℕ → ℕ → Option (List ℕ)) (d e : List ℕ) (met : Resolved) → try_all go d met.before.now ≡ Some e
    → try_some go e met.own ≡ None → try_all go d (all_of met) ≡ None
go_own_none go d e met first second = go_parts go d met ∙ rw (first, second) refl

pub go_through : (go : List ℕ → ℕ → Option (List ℕ)) (d e f : List ℕ) (met : Resolved) → try_all go d met.before.now ≡ Some e
    → try_some go e met.own ≡ Some f
    → try_all go d (all_of met) ≡ try_all go f met.after.now
go_through go d e f met first second = go_parts go d met ∙ rw (first, second) refl
