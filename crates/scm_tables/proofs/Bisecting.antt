-- Rows in order of number: where the one with a number stands, and what is changed where it alone is.
use Rattle.std.proofs.Common.{ℕ, ◌≡◌, ◌≢◌, ◌<◌, ◌≤◌, ◌∙◌, ◌==◌, inl, inr, zero, suc, not, List, [], ◌∷◌, Option, None, Some, Result, Ok}
use Rattle.std.proofs.Common.{Err, cond, filter, find, map, refl, ap, sym, subst, length, get_or, arith, eq-eqb}
use Rattle.std.specs.Prelude.{All, AllPairs, IfSome, IfNone, remove, set, slice_get}
use Rattle.std.specs.List.Sorted.{IsSearchInRange, IsBinarySearchResult, IsNonDecreasingBy}
use Rattle.std.specs.Ordering.{nat_cmp, ordering_index}
use Rattle.std.specs.Result.{result_ok}
use Rattle.std.proofs.lemmas.Bool.{cases_order, ne_eqb}
use Rattle.std.proofs.lemmas.Bool.Decides.{nat_tests}
use Rattle.std.proofs.lemmas.Cmp.{ranked}
use Rattle.std.proofs.lemmas.Option.{slice_get-get_or}

module _ {R : Type 0} (number_of : R → ℕ) where
  abbrev pub Rise : List R → Type 0
  Rise rows = AllPairs (λ (a b : R). number_of a < number_of b) rows

  -- the rows behind the first
  later : (row : R) (rows : List R) → Rise (row ∷ rows) → Rise rows
  later row rows ordered k j d lower within = ordered (suc k) (suc j) d (omega (arith, lower)) (omega (arith, within))

  -- no row behind the first has its number
  none_later : (row : R) (rows : List R) (n : ℕ) → Rise (row ∷ rows) → number_of row ≡ n → All (λ (r : R). number_of r ≢ n) rows
  none_later row rows n ordered is k d lt same = let less = ordered 0 (suc k) d (omega arith) (omega (arith, lt)) in
      omega (arith, less, is, same)

  -- ## Where a search ends

  -- the place of the row with a number
  pub record IsPlace (rows : List R) (n : ℕ) (place : Option ℕ) : Type 0 where
    pub found : IfSome place (λ (i : ℕ). IfSome (slice_get rows i) (λ (row : R). number_of row ≡ n))
    pub within : IfSome place (λ (i : ℕ). i < length rows)
    pub none : IfNone place (All (λ (row : R). number_of row ≢ n) rows)

  number_here : (rows : List R) (i n : ℕ) → i < length rows → ((d : R) → number_of (get_or rows i d) ≡ n)
      → IfSome (slice_get rows i) (λ (row : R). number_of row ≡ n)
  number_here [] i n within is = absurd (omega arith)
  number_here (row ∷ rows) i n within is = subst (λ (o : Option R). IfSome o (λ (r : R). number_of r ≡ n))
      (sym (slice_get-get_or (row ∷ rows) i row within)) (is row)

  -- what stands at a place has the number
  pub number_at : (n : ℕ) (rows : List R) (i : ℕ) (d : R) → i < length rows → IfSome (slice_get rows i) (λ (row : R). number_of row ≡ n)
      → number_of (get_or rows i d) ≡ n
  number_at n rows i d within found = subst (λ (o : Option R). IfSome o (λ (row : R). number_of row ≡ n))
      (slice_get-get_or rows i d within) found

  module _ (rows : List R) (n : ℕ) (rising : Rise rows) where
    -- the comparisons with the number rise along the list, as a binary search asks
    comparisons_rise : IsNonDecreasingBy (λ (row : R). ordering_index (nat_cmp (number_of row) n)) rows
    comparisons_rise i j d le within =
        let numbers_rise : number_of (get_or rows i d) ≤ number_of (get_or rows j d) =
        elim (cases_order i j) [
          | inl same ↦ omega (arith, ap (λ (k : ℕ). number_of (get_or rows k d)) same)
          | inr (inl less) ↦ omega (arith, rising i j d less within)
          | inr (inr more) ↦ absurd (omega arith)
        ] in
        grind (arith, nat_tests)

    pub placed : (r : Result ℕ ℕ) → IsSearchInRange r (length rows) → IsBinarySearchResult (λ (row : R). nat_cmp (number_of row) n) rows r
        → IsPlace rows n (result_ok r)
    placed (Ok i) within equal = record {
      found = number_here rows i n within (λ (d : R). ranked _ n _ (sym (equal d)));
      within = within;
      none = tt;
    }
    placed (Err i) within parted = record {
      found = tt;
      within = tt;
      none = λ k d lt same. elim (cases_order k i) [
        | inl here ↦ omega (arith, same, ranked _ n _ (sym ((parted comparisons_rise).1 k d (omega arith) lt)))
        | inr (inl less) ↦ omega (arith, same, ranked _ n _ (sym ((parted comparisons_rise).0 k d (omega arith) less)))
        | inr (inr more) ↦ omega (arith, same, ranked _ n _ (sym ((parted comparisons_rise).1 k d (omega arith) lt)))
      ];
    }

  -- ## What it finds

  -- the one at a place is found by its number
  pub found_here : (rows : List R) (i n : ℕ) (d : R) → Rise rows → i < length rows → number_of (get_or rows i d) ≡ n
      → find (λ (row : R). number_of row == n) rows ≡ Some (get_or rows i d)
  found_here [] i n d ordered lt is = absurd (omega arith)
  found_here (row ∷ rows) zero n d ordered lt is = ap (λ b. cond b (Some row) (find (λ (r : R). number_of r == n) rows))
      (eq-eqb (number_of row) n is)
  found_here (row ∷ rows) (suc i) n d ordered lt is =
      let less = ordered 0 (suc i) d (omega arith) lt in
      ap (λ b. cond b (Some row) (find (λ (r : R). number_of r == n) rows)) (ne_eqb (number_of row) n (omega (arith, less, is)))
      ∙ found_here rows i n d (later row rows ordered) (omega arith) is

  pub found_nowhere : (rows : List R) (n : ℕ) → All (λ (row : R). number_of row ≢ n) rows
      → find (λ (row : R). number_of row == n) rows ≡ None
  found_nowhere [] n others = refl
  found_nowhere (row ∷ rows) n others =
      ap (λ b. cond b (Some row) (find (λ (r : R). number_of r == n) rows)) (ne_eqb (number_of row) n (others 0 row (omega arith)))
      ∙ found_nowhere rows n (λ k d lt. others (suc k) d (omega (arith, lt)))

  -- ## A change of the row with a number

  module _ (n : ℕ) (change : R → R) (elsewhere : (row : R) → number_of row ≢ n → change row ≡ row) where
    -- where no row has the number nothing is changed
    pub none_changed : (rows : List R) → All (λ (row : R). number_of row ≢ n) rows → map change rows ≡ rows
    none_changed [] others = refl
    none_changed (row ∷ rows) others =
        ap (λ r. r ∷ map change rows) (elsewhere row (others 0 row (omega arith)))
        ∙ ap (λ rs. row ∷ rs) (none_changed rows (λ k d lt. others (suc k) d (omega (arith, lt))))

    -- the one row that has it is changed
    pub one_changed : (rows : List R) (i : ℕ) (d : R) → Rise rows → i < length rows → number_of (get_or rows i d) ≡ n
        → map change rows ≡ set rows i (change (get_or rows i d))
    one_changed [] i d ordered within is = absurd (omega arith)
    one_changed (row ∷ rows) zero d ordered within is = ap (λ rs. change row ∷ rs) (none_changed rows (none_later row rows n ordered is))
    one_changed (row ∷ rows) (suc i) d ordered within is =
        let less = ordered 0 (suc i) d (omega arith) within in
        ap (λ r. r ∷ map change rows) (elsewhere row (λ same. omega (arith, less, is, same)))
        ∙ ap (λ rs. row ∷ rs) (one_changed rows i d (later row rows ordered) (omega arith) is)

    -- so where a search found none among the same rows
    pub unchanged : {seen rows : List R} → seen ≡ rows → All (λ (row : R). number_of row ≢ n) seen → rows ≡ map change rows
    unchanged {seen} {rows} same others = sym (none_changed rows (subst
        (λ (rs : List R). All (λ (row : R). number_of row ≢ n) rs) same others))

    -- and where it found one, which becomes another
    pub changed_at : (new : R → R) → ((row : R) → number_of row ≡ n → change row ≡ new row) → {seen rows : List R} {i : ℕ} → seen ≡ rows
        → i < length seen → IfSome (slice_get seen i) (λ (row : R). number_of row ≡ n) → Rise rows → (d : R)
        → set rows i (new (get_or rows i d)) ≡ map change rows
    changed_at new here {seen} {rows} {i} same within found ordered d =
        let short = subst (λ (rs : List R). i < length rs) same within in
        let is = number_at n rows i d short (subst (λ (rs : List R). IfSome (slice_get rs i) (λ (row : R). number_of row ≡ n)) same found)
        in
        ap (λ (row : R). set rows i row) (sym (here (get_or rows i d) is)) ∙ sym (one_changed rows i d ordered short is)

  -- ## The row with a number goes

  abbrev pub others_of : ℕ → List R → List R
  others_of n rows = filter (λ (row : R). not (number_of row == n)) rows

  pub none_gone : (n : ℕ) (rows : List R) → All (λ (row : R). number_of row ≢ n) rows → rows ≡ others_of n rows
  none_gone n [] others = refl
  none_gone n (row ∷ rows) others =
      rw (ne_eqb (number_of row) n (others 0 row (omega arith))) (ap (λ rest. row ∷ rest)
      (none_gone n rows (λ k d lt. others (suc k) d (omega (arith, lt)))))

  pub one_gone : (n : ℕ) (rows : List R) (i : ℕ) (d : R) → Rise rows → i < length rows → number_of (get_or rows i d) ≡ n
      → remove rows i ≡ others_of n rows
  one_gone n [] i d ordered within is = absurd (omega arith)
  one_gone n (row ∷ rows) zero d ordered within is = rw (eq-eqb (number_of row) n is) (none_gone n rows (none_later row rows n ordered is))
  one_gone n (row ∷ rows) (suc i) d ordered within is =
      let less = ordered 0 (suc i) d (omega arith) within in
      rw (ne_eqb (number_of row) n (omega (arith, less, is))) (ap (λ rest. row ∷ rest)
      (one_gone n rows i d (later row rows ordered) (omega arith) is))

  pub gone_at : (n : ℕ) {seen rows : List R} {i : ℕ} → seen ≡ rows → i < length seen
      → IfSome (slice_get seen i) (λ (row : R). number_of row ≡ n) → Rise rows → (d : R) → remove rows i ≡ others_of n rows
  gone_at n {seen} {rows} {i} same within found ordered d =
      let short = subst (λ (rs : List R). i < length rs) same within in
      one_gone n rows i d ordered short (number_at n rows i d short (subst
      (λ (rs : List R). IfSome (slice_get rs i) (λ (row : R). number_of row ≡ n)) same found))

  pub nothing_gone : (n : ℕ) {seen rows : List R} → seen ≡ rows → All (λ (row : R). number_of row ≢ n) seen → rows ≡ others_of n rows
  nothing_gone n {seen} {rows} same others = none_gone n rows (subst (λ (rs : List R). All (λ (row : R). number_of row ≢ n) rs) same others)
