-- Rows at places.
use Rattle.std.proofs.Common.{ℕ, ◌≡◌, ◌≢◌, ◌<◌, ◌≤◌, ◌∙◌, zero, suc, true, not, List, [], ◌∷◌, ◌++◌, Option, Some, None, refl, sym, ap}
use Rattle.std.proofs.Common.{subst, is_some, length, get_or, filter, find, map, arith, remove}
use Rattle.std.specs.Prelude.{slice_get, slice_index_or, option_map}
use Rattle.std.specs.List.{AllByRecursion, HoldsAt}
use Rattle.std.proofs.lemmas.Bool.{eq-eqb, ne_eqb, lt-ltb, le-ltb}
use Rattle.std.specs.Prelude.{IfSome}
use Rattle.slab.specs.Slab.{Slab, get, Updates}
use Rattle.row_slab.specs.declared.rows.Place.{Place}
use Rattle.row_slab.specs.Rowed.{cons_row, rows_at, IsRowOf, AreKept, AreRisingBy, is_at, is_above, altered_at}

module _ {T : Type 0} (number_of : T → ℕ) where
  abbrev at : List (Option T) → ℕ → Option T
  at slots key = slice_index_or slots key None

  all_places : (P : Place → Type 0) (places : List Place) (i : ℕ) (d : Place) → AllByRecursion P places → i < length places
      → P (get_or places i d)
  all_places P [] i d h lt = absurd (omega arith)
  all_places P (place ∷ places) zero d h lt = h.0
  all_places P (place ∷ places) (suc i) d h lt = all_places P places i d h.1 (omega arith)

  -- the places are in order
  pub ordered : (slots : List (Option T)) (places : List Place) → AreKept number_of slots places → (i j : ℕ) (d : Place) → i < j
      → j < length places → (get_or places i d).number < (get_or places j d).number
  ordered slots [] kept i j d lt within = absurd (omega arith)
  ordered slots (place ∷ places) kept zero zero d lt within = absurd (omega arith)
  ordered slots (place ∷ places) kept (suc i) zero d lt within = absurd (omega arith)
  ordered slots (place ∷ places) kept zero (suc j) d lt within = all_places
      (λ (other : Place). place.number < other.number) places j d kept.1 (omega arith)
  ordered slots (place ∷ places) kept (suc i) (suc j) d lt within = ordered slots places kept.2 i j d (omega arith) (omega arith)

  -- a later place is of a higher number
  lower : (slots : List (Option T)) (place : Place) (places : List Place) (i : ℕ) (d : Place) → AreKept number_of slots (place ∷ places)
      → i < length places → place.number < (get_or places i d).number
  lower slots place places i d kept lt = all_places (λ (other : Place). place.number < other.number) places i d kept.1 lt

  -- at each place there is a row
  pub there : (slots : List (Option T)) (places : List Place) (i : ℕ) (d : Place) → AreKept number_of slots places → i < length places
      → IsRowOf number_of (get_or places i d).number (at slots (get_or places i d).key)
  there slots [] i d kept lt = absurd (omega arith)
  there slots (place ∷ places) zero d kept lt = kept.0
  there slots (place ∷ places) (suc i) d kept lt = there slots places i d kept.2 (omega arith)

  -- no row has two numbers
  clash : (o : Option T) (m n : ℕ) → IsRowOf number_of m o → IsRowOf number_of n o → m < n → ⊥
  clash None m n a b lt = a
  clash (Some row) m n a b lt = omega (arith, a, b, lt)

  -- a later place has another key
  other_key : (slots : List (Option T)) (place : Place) (places : List Place) (i : ℕ) (d : Place)
      → AreKept number_of slots (place ∷ places) → i < length places → place.key ≢ (get_or places i d).key
  other_key slots place places i d kept lt = λ same.
      let row = subst (λ k. IsRowOf number_of (get_or places i d).number (at slots k)) (sym same) (there slots places i d kept.2 lt) in
      clash (at slots place.key) place.number (get_or places i d).number kept.0 row (lower slots place places i d kept lt)

  -- ## A row is found

  pub found : (slots : List (Option T)) (places : List Place) (i n : ℕ) (d : Place) → AreKept number_of slots places → i < length places
      → (get_or places i d).number ≡ n
      → find (is_at number_of n) (rows_at slots places) ≡ at slots (get_or places i d).key
  found slots [] i n d kept lt is = absurd (omega arith)
  found slots (place ∷ places) zero n d kept lt is =
      elim (at slots place.key) as (λ o. IsRowOf number_of place.number o
      → find (is_at number_of n) (cons_row o (rows_at slots places)) ≡ o) [
        | None ↦ λ h. absurd h
        | Some row ↦ λ h. rw (eq-eqb (number_of row) n (h ∙ is)) refl
      ] kept.0
  found slots (place ∷ places) (suc i) n d kept lt is =
      let less = lower slots place places i d kept (omega arith) in
      elim (at slots place.key) as (λ o. IsRowOf number_of place.number o
      → find (is_at number_of n) (cons_row o (rows_at slots places)) ≡ at slots (get_or places i d).key) [
        | None ↦ λ h. absurd h
        | Some row ↦ λ h. rw (ne_eqb (number_of row) n (omega (arith, h, less, is))) (found slots places i n d kept.2 (omega arith) is)
      ] kept.0

  pub unfound : (slots : List (Option T)) (places : List Place) (n : ℕ) → AreKept number_of slots places
      → ((k : ℕ) (d : Place) → k < length places → (get_or places k d).number ≢ n)
      → find (is_at number_of n) (rows_at slots places) ≡ None
  unfound slots [] n kept other = refl
  unfound slots (place ∷ places) n kept other =
      elim (at slots place.key) as (λ o. IsRowOf number_of place.number o
      → find (is_at number_of n) (cons_row o (rows_at slots places)) ≡ None) [
        | None ↦ λ h. absurd h
        | Some row ↦ λ h. rw (ne_eqb (number_of row) n (λ same. other 0 place (omega arith) (sym h ∙ same)))
            (unfound slots places n kept.2 (λ k d lt. other (suc k) d (omega arith)))
      ] kept.0

  -- the rows are as many as the places, and stand as they do
  pub row_at : (slots : List (Option T)) (places : List Place) (i : ℕ) (d : Place) → AreKept number_of slots places → i < length places
      → slice_get (rows_at slots places) i ≡ at slots (get_or places i d).key
  row_at slots [] i d kept lt = absurd (omega arith)
  row_at slots (place ∷ places) zero d kept lt =
      elim (at slots place.key) as (λ o. IsRowOf number_of place.number o → slice_get (cons_row o (rows_at slots places)) 0 ≡ o) [
        | None ↦ λ h. absurd h
        | Some row ↦ λ h. refl
      ] kept.0
  row_at slots (place ∷ places) (suc i) d kept lt =
      elim (at slots place.key) as (λ o. IsRowOf number_of place.number o
      → slice_get (cons_row o (rows_at slots places)) (suc i) ≡ at slots (get_or places i d).key) [
        | None ↦ λ h. absurd h
        | Some row ↦ λ h. row_at slots places i d kept.2 (omega arith)
      ] kept.0

  pub as_many : (slots : List (Option T)) (places : List Place) → AreKept number_of slots places
      → length (rows_at slots places) ≡ length places
  as_many slots [] kept = refl
  as_many slots (place ∷ places) kept =
      elim (at slots place.key) as (λ o. IsRowOf number_of place.number o
      → length (cons_row o (rows_at slots places)) ≡ suc (length places)) [
        | None ↦ λ h. absurd h
        | Some row ↦ λ h. ap suc (as_many slots places kept.2)
      ] kept.0

  all_rows : (low : ℕ) (slots : List (Option T)) (places : List Place) → AreKept number_of slots places
      → AllByRecursion (λ (other : Place). low < other.number) places
      → AllByRecursion (λ (row : T). low < number_of row) (rows_at slots places)
  all_rows low slots [] kept all = tt
  all_rows low slots (place ∷ places) kept all =
      elim (at slots place.key) as (λ o. IsRowOf number_of place.number o
      → AllByRecursion (λ (row : T). low < number_of row) (cons_row o (rows_at slots places))) [
        | None ↦ λ h. absurd h
        | Some row ↦ λ h. (omega (arith, h, all.0), all_rows low slots places kept.2 all.1)
      ] kept.0

  -- the rows stand in order of number
  pub rising : (slots : List (Option T)) (places : List Place) → AreKept number_of slots places
      → AreRisingBy number_of (rows_at slots places)
  rising slots [] kept = tt
  rising slots (place ∷ places) kept =
      elim (at slots place.key) as (λ o. IsRowOf number_of place.number o → AreRisingBy number_of (cons_row o (rows_at slots places))) [
        | None ↦ λ h. absurd h
        | Some row ↦ λ h. (
          all_rows (number_of row) slots places kept.2
              (subst (λ n. AllByRecursion (λ (other : Place). n < other.number) places) (sym h) kept.1),
          rising slots places kept.2,
        )
      ] kept.0

  -- ## Another slot is written

  -- no place has the key
  abbrev pub IsApart : ℕ → List Place → Type 0
  IsApart key places = AllByRecursion (λ (place : Place). place.key ≢ key) places

  pub still_kept : (old new : List (Option T)) (key : ℕ) (places : List Place) → ((other : ℕ) → other ≢ key → at new other ≡ at old other)
      → IsApart key places → AreKept number_of old places → AreKept number_of new places
  still_kept old new key [] others apart kept = tt
  still_kept old new key (place ∷ places) others apart kept =
      (rw (others place.key apart.0) kept.0, kept.1, still_kept old new key places others apart.1 kept.2)

  pub same_rows : (old new : List (Option T)) (key : ℕ) (places : List Place) → ((other : ℕ) → other ≢ key → at new other ≡ at old other)
      → IsApart key places → rows_at new places ≡ rows_at old places
  same_rows old new key [] others apart = refl
  same_rows old new key (place ∷ places) others apart = rw (others place.key apart.0, same_rows old new key places others apart.1) refl

  -- a key without a row is no place's
  pub apart_none : (slots : List (Option T)) (key : ℕ) (places : List Place) → at slots key ≡ None → AreKept number_of slots places
      → IsApart key places
  apart_none slots key [] none kept = tt
  apart_none slots key (place ∷ places) none kept =
      (λ same. subst (λ o. IsRowOf number_of place.number o) (ap (at slots) same ∙ none) kept.0, apart_none slots key places none kept.2)

  -- the key of a lower row is no later place's
  pub apart_above : (slots : List (Option T)) (key n : ℕ) (places : List Place) → IsRowOf number_of n (at slots key)
      → AllByRecursion (λ (other : Place). n < other.number) places → AreKept number_of slots places → IsApart key places
  apart_above slots key n [] row above kept = tt
  apart_above slots key n (place ∷ places) row above kept = (
    λ same. clash (at slots key) n place.number row (subst (λ k. IsRowOf number_of place.number (at slots k)) same kept.0) above.0,
    apart_above slots key n places row above.1 kept.2,
  )

  -- ## A row more

  pub pushed : (old new : List (Option T)) (places : List Place) (place : Place) (row : T) → AreKept number_of old places
      → IsApart place.key places
      → ((other : ℕ) → other ≢ place.key → at new other ≡ at old other) → at new place.key ≡ Some row
      → rows_at new (places ++ place ∷ []) ≡ rows_at old places ++ row ∷ []
  pushed old new [] place row kept apart others is = rw is refl
  pushed old new (first ∷ places) place row kept apart others is =
      rw (others first.key apart.0, pushed old new places place row kept.2 apart.1 others is)
      (elim (at old first.key) as (λ o. IsRowOf number_of first.number o
      → cons_row o (rows_at old places ++ row ∷ []) ≡ cons_row o (rows_at old places) ++ row ∷ []) [
        | None ↦ λ h. absurd h
        | Some other ↦ λ h. refl
      ] kept.0)

  pub kept_pushed : (old new : List (Option T)) (places : List Place) (place : Place) (row : T) → AreKept number_of old places
      → IsApart place.key places
      → ((other : ℕ) → other ≢ place.key → at new other ≡ at old other) → at new place.key ≡ Some row → number_of row ≡ place.number
      → AllByRecursion (λ (other : Place). other.number < place.number) places
      → AreKept number_of new (places ++ place ∷ [])
  kept_pushed old new [] place row kept apart others is number below = (rw is number, tt, tt)
  kept_pushed old new (first ∷ places) place row kept apart others is number below = (
    rw (others first.key apart.0) kept.0,
    all_pushed places kept.1,
    kept_pushed old new places place row kept.2 apart.1 others is number
        below.1,
  )
    where
      all_pushed : (ps : List Place) → AllByRecursion (λ (other : Place). first.number < other.number) ps
          → AllByRecursion (λ (other : Place). first.number < other.number) (ps ++ place ∷ [])
      all_pushed [] all = (below.0, tt)
      all_pushed (p ∷ ps) all = (all.0, all_pushed ps all.1)

  -- the places of lower rows are of lower numbers
  pub below_places : (slots : List (Option T)) (places : List Place) (n : ℕ) → AreKept number_of slots places
      → AllByRecursion (λ (row : T). number_of row < n) (rows_at slots places)
      → AllByRecursion (λ (other : Place). other.number < n) places
  below_places slots [] n kept all = tt
  below_places slots (place ∷ places) n kept whole =
      elim (at slots place.key) as (λ o. IsRowOf number_of place.number o
      → AllByRecursion (λ (row : T). number_of row < n) (cons_row o (rows_at slots places))
      → AllByRecursion (λ (other : Place). other.number < n) (place ∷ places)) [
        | None ↦ λ h. absurd h
        | Some row ↦ λ h all. (omega (arith, h, all.0), below_places slots places n kept.2 all.1)
      ] kept.0 whole

  -- ## A row less

  kept_all : (n : ℕ) (rows : List T) → AllByRecursion (λ (row : T). n < number_of row) rows
      → filter (λ (row : T). not (is_at number_of n row)) rows ≡ rows
  kept_all n [] all = refl
  kept_all n (row ∷ rows) all = rw (ne_eqb (number_of row) n (omega (arith, all.0))) (ap (λ rest. row ∷ rest) (kept_all n rows all.1))

  pub removed : (old new : List (Option T)) (places : List Place) (i n : ℕ) (d : Place) → AreKept number_of old places → i < length places
      → (get_or places i d).number ≡ n
      → ((other : ℕ) → other ≢ (get_or places i d).key → at new other ≡ at old other)
      → rows_at new (remove places i) ≡ filter (λ (row : T). not (is_at number_of n row)) (rows_at old places)
  removed old new [] i n d kept lt is others = absurd (omega arith)
  removed old new (place ∷ places) zero n d kept lt is others =
      same_rows old new place.key places others (apart_above old place.key place.number places kept.0 kept.1 kept.2)
      ∙ elim (at old place.key) as (λ o. IsRowOf number_of place.number o
      → rows_at old places ≡ filter (λ (row : T). not (is_at number_of n row)) (cons_row o (rows_at old places))) [
        | None ↦ λ h. absurd h
        | Some row ↦ λ h.
            rw (eq-eqb (number_of row) n (h ∙ is))
            (sym (kept_all n (rows_at old places) (subst (λ m. AllByRecursion (λ (r : T). m < number_of r) (rows_at old places)) is
            (all_rows place.number old places kept.2 kept.1))))
      ] kept.0
  removed old new (place ∷ places) (suc i) n d kept lt is others =
      let less = lower old place places i d kept (omega arith) in
      rw (others place.key (other_key old place places i d kept (omega arith)), removed old new places i n d kept.2 (omega arith) is others)
      (elim (at old place.key) as (λ o. IsRowOf number_of place.number o
      → cons_row o (filter (λ (row : T). not (is_at number_of n row)) (rows_at old places)) ≡ filter
      (λ (row : T). not (is_at number_of n row)) (cons_row o (rows_at old places))) [
        | None ↦ λ h. absurd h
        | Some row ↦ λ h. rw (ne_eqb (number_of row) n (omega (arith, h, less, is))) refl
      ] kept.0)

  all_removed : (P : Place → Type 0) (places : List Place) (i : ℕ) → AllByRecursion P places → AllByRecursion P (remove places i)
  all_removed P [] zero all = tt
  all_removed P [] (suc i) all = tt
  all_removed P (place ∷ places) zero all = all.1
  all_removed P (place ∷ places) (suc i) all = (all.0, all_removed P places i all.1)

  pub kept_removed : (old new : List (Option T)) (places : List Place) (i : ℕ) (d : Place) → AreKept number_of old places
      → i < length places
      → ((other : ℕ) → other ≢ (get_or places i d).key → at new other ≡ at old other) → AreKept number_of new (remove places i)
  kept_removed old new [] i d kept lt others = absurd (omega arith)
  kept_removed old new (place ∷ places) zero d kept lt others = still_kept old new place.key places others
      (apart_above old place.key place.number places kept.0 kept.1 kept.2) kept.2
  kept_removed old new (place ∷ places) (suc i) d kept lt others = (
    rw (others place.key (other_key old place places i d kept (omega arith))) kept.0,
    all_removed (λ (other : Place). place.number < other.number) places i kept.1,
    kept_removed old new places i d kept.2 (omega arith) others,
  )

  -- a number that is nowhere takes no row out
  pub stays : (slots : List (Option T)) (places : List Place) (n : ℕ) → AreKept number_of slots places
      → ((k : ℕ) (d : Place) → k < length places → (get_or places k d).number ≢ n)
      → filter (λ (row : T). not (is_at number_of n row)) (rows_at slots places) ≡ rows_at slots places
  stays slots [] n kept other = refl
  stays slots (place ∷ places) n kept other =
      elim (at slots place.key) as (λ o. IsRowOf number_of place.number o
      → filter (λ (row : T). not (is_at number_of n row)) (cons_row o (rows_at slots places)) ≡ cons_row o (rows_at slots places)) [
        | None ↦ λ h. absurd h
        | Some row ↦ λ h.
            rw (ne_eqb (number_of row) n (λ same. other 0 place (omega arith) (sym h ∙ same)))
            (ap (λ rest. row ∷ rest) (stays slots places n kept.2 (λ k d lt. other (suc k) d (omega arith))))
      ] kept.0

  -- ## A row is changed

  same_all : (n : ℕ) (change : T → T) (rows : List T) → AllByRecursion (λ (row : T). n < number_of row) rows
      → map (altered_at number_of n change) rows ≡ rows
  same_all n change [] all = refl
  same_all n change (row ∷ rows) all = rw (ne_eqb (number_of row) n (omega (arith, all.0)))
      (ap (λ rest. row ∷ rest) (same_all n change rows all.1))

  pub altered : (old new : List (Option T)) (places : List Place) (i n : ℕ) (d : Place) (row : T) (change : T → T)
      → AreKept number_of old places → i < length places → (get_or places i d).number ≡ n
      → ((other : ℕ) → other ≢ (get_or places i d).key → at new other ≡ at old other) → at old (get_or places i d).key ≡ Some row
      → at new (get_or places i d).key ≡ Some (change row)
      → rows_at new places ≡ map (altered_at number_of n change) (rows_at old places)
  altered old new [] i n d row change kept lt is others was now = absurd (omega arith)
  altered old new (place ∷ places) zero n d row change kept lt is others was now =
      let number : number_of row ≡ place.number = subst (λ o. IsRowOf number_of place.number o) was kept.0 in
      let rest = same_rows old new place.key places others (apart_above old place.key place.number places kept.0 kept.1 kept.2) in
      let alike = same_all n change (rows_at old places) (subst (λ m. AllByRecursion (λ (r : T). m < number_of r) (rows_at old places)) is
      (all_rows place.number old places kept.2 kept.1)) in
      rw (was, now, eq-eqb (number_of row) n (number ∙ is), rest, alike) refl
  altered old new (place ∷ places) (suc i) n d row change kept lt is others was now =
      let less = lower old place places i d kept (omega arith) in
      rw (
        others place.key (other_key old place places i d kept (omega arith)),
        altered old new places i n d row change kept.2 (omega arith) is others was now,
      )
      (elim (at old place.key) as (λ o. IsRowOf number_of place.number o
      → cons_row o (map (altered_at number_of n change) (rows_at old places)) ≡ map (altered_at number_of n change)
      (cons_row o (rows_at old places))) [
        | None ↦ λ h. absurd h
        | Some head ↦ λ h. rw (ne_eqb (number_of head) n (omega (arith, h, less, is))) refl
      ] kept.0)

  pub kept_altered : (old new : List (Option T)) (places : List Place) (i : ℕ) (d : Place) (row changed : T) → AreKept number_of old places
      → i < length places
      → ((other : ℕ) → other ≢ (get_or places i d).key → at new other ≡ at old other) → at old (get_or places i d).key ≡ Some row
      → at new (get_or places i d).key ≡ Some changed
      → number_of changed ≡ number_of row → AreKept number_of new places
  kept_altered old new [] i d row changed kept lt others was now same = absurd (omega arith)
  kept_altered old new (place ∷ places) zero d row changed kept lt others was now same =
      let number : number_of row ≡ place.number = subst (λ o. IsRowOf number_of place.number o) was kept.0 in (
        rw now (same ∙ number),
        kept.1,
        still_kept old new place.key places others
            (apart_above old place.key place.number places kept.0 kept.1 kept.2) kept.2,
      )
  kept_altered old new (place ∷ places) (suc i) d row changed kept lt others was now same = (
    rw (others place.key (other_key old place places i d kept (omega arith))) kept.0,
    kept.1,
    kept_altered old new places i d row changed kept.2 (omega arith) others was now same,
  )

  -- a number that is nowhere changes no row
  pub unaltered : (slots : List (Option T)) (places : List Place) (n : ℕ) (change : T → T) → AreKept number_of slots places
      → ((k : ℕ) (d : Place) → k < length places → (get_or places k d).number ≢ n)
      → map (altered_at number_of n change) (rows_at slots places) ≡ rows_at slots places
  unaltered slots [] n change kept other = refl
  unaltered slots (place ∷ places) n change kept other =
      elim (at slots place.key) as (λ o. IsRowOf number_of place.number o
      → map (altered_at number_of n change) (cons_row o (rows_at slots places)) ≡ cons_row o (rows_at slots places)) [
        | None ↦ λ h. absurd h
        | Some row ↦ λ h.
            rw (ne_eqb (number_of row) n (λ same. other 0 place (omega arith) (sym h ∙ same)))
            (ap (λ rest. row ∷ rest) (unaltered slots places n change kept.2 (λ k d lt. other (suc k) d (omega arith))))
      ] kept.0

  -- the row that stands at a place
  pub the_row : (slots : List (Option T)) (places : List Place) (i : ℕ) (d : Place) → AreKept number_of slots places → i < length places
      → is_some (at slots (get_or places i d).key) ≡ true
  the_row slots places i d kept lt = by (at slots (get_or places i d).key) (there slots places i d kept lt)
    where
      by : (o : Option T) → IsRowOf number_of (get_or places i d).number o → is_some o ≡ true
      by None h = absurd h
      by (Some row) h = refl

  -- ## The next number

  pub next_is : (slots : List (Option T)) (places : List Place) (i n : ℕ) (d : Place) → AreKept number_of slots places → i < length places
      → ((k : ℕ) (e : Place) → k < i → (get_or places k e).number ≤ n)
      → n < (get_or places i d).number → option_map number_of (find (is_above number_of n) (rows_at slots places)) ≡ Some
      (get_or places i d).number
  next_is slots [] i n d kept lt below above = absurd (omega arith)
  next_is slots (place ∷ places) zero n d kept lt below above =
      elim (at slots place.key) as (λ o. IsRowOf number_of place.number o
      → option_map number_of (find (is_above number_of n) (cons_row o (rows_at slots places))) ≡ Some place.number) [
        | None ↦ λ h. absurd h
        | Some row ↦ λ h. rw (lt-ltb n (number_of row) (omega (arith, h, above))) (ap Some h)
      ] kept.0
  next_is slots (place ∷ places) (suc i) n d kept lt below above =
      elim (at slots place.key) as (λ o. IsRowOf number_of place.number o
      → option_map number_of (find (is_above number_of n) (cons_row o (rows_at slots places))) ≡ Some (get_or places i d).number) [
        | None ↦ λ h. absurd h
        | Some row ↦ λ h.
            rw (le-ltb n (number_of row) (omega (arith, h, below 0 place (omega arith))))
            (next_is slots places i n d kept.2 (omega arith) (λ k e before. below (suc k) e (omega arith)) above)
      ] kept.0

  pub no_next : (slots : List (Option T)) (places : List Place) (n : ℕ) → AreKept number_of slots places
      → ((k : ℕ) (e : Place) → k < length places → (get_or places k e).number ≤ n)
      → find (is_above number_of n) (rows_at slots places) ≡ None
  no_next slots [] n kept below = refl
  no_next slots (place ∷ places) n kept below =
      elim (at slots place.key) as (λ o. IsRowOf number_of place.number o
      → find (is_above number_of n) (cons_row o (rows_at slots places)) ≡ None) [
        | None ↦ λ h. absurd h
        | Some row ↦ λ h.
            rw (le-ltb n (number_of row) (omega (arith, h, below 0 place (omega arith))))
            (no_next slots places n kept.2 (λ k e before. below (suc k) e (omega arith)))
      ] kept.0

  -- ## A write at a place of the slab

  -- the slot of a key was changed, and holds the row with a number
  pub record IsWritten (old new : Slab T) (places : List Place) (key n : ℕ) (change : T → T) : Type 0 where
    pub some : is_some (get old key) ≡ true
    pub found : find (is_at number_of n) (rows_at old.slots places) ≡ get old key
    pub items : rows_at new.slots places ≡ map (altered_at number_of n change) (rows_at old.slots places)
    pub kept : AreKept number_of new.slots places

  pub written : (old new : Slab T) (places : List Place) (i n : ℕ) (place : Place) (change : T → T) → AreKept number_of old.slots places
      → (i < length places) × HoldsAt (λ (p : Place). p.number ≡ n) places i → place ≡ get_or places i place
      → IfSome (get old place.key) (λ row. Updates old new place.key (Some (change row)))
      → ((row : T) → number_of (change row) ≡ number_of row) → IsWritten old new places place.key n change
  written old new places i n place change kept here is updates same = by (get old place.key) refl row_there updates
    where
      row_there : IsRowOf number_of place.number (get old place.key)
      row_there = subst (λ (p : Place). IsRowOf number_of p.number (get old p.key)) (sym is) (there old.slots places i place kept here.0)

      at_place : (slots : List (Option T)) → at slots (get_or places i place).key ≡ at slots place.key
      at_place slots = ap (λ (p : Place). at slots p.key) (sym is)

      by : (o : Option T) → get old place.key ≡ o → IsRowOf number_of place.number o
          → IfSome o (λ row. Updates old new place.key (Some (change row))) → IsWritten old new places place.key n change
      by None e row updates = absurd row
      by (Some row) e number updates =
          let others : (other : ℕ) → other ≢ (get_or places i place).key → at new.slots other ≡ at old.slots other =
          λ other differs. updates.others other (λ same. differs (same ∙ ap (λ (p : Place). p.key) is)) in
          let was = at_place old.slots ∙ e in
          let now = at_place new.slots ∙ updates.changed in
          record {
            some = ap is_some e;
            found = found old.slots places i n place kept here.0 (here.1 place) ∙ at_place old.slots;
            items = altered old.slots new.slots places i n place row change kept here.0 (here.1 place) others was now;
            kept = kept_altered old.slots new.slots places i place row (change row) kept here.0 others was now (same row);
          }
