-- The pairs with one key stand side by side.
use Rattle.std.proofs.Common.{ℕ, ◌≡◌, ◌≤◌, ◌∙◌, ◌-◌, inl, inr, zero, suc, Bool, true, false, not, List, [], ◌∷◌, refl, ap, leb, ltb, length}
use Rattle.std.proofs.Common.{get_or, take, drop, filter, arith}
use Rattle.std.specs.List.Sorted.{IsNonDecreasingBy, IsPartitionPoint}
use Rattle.std.specs.declared.cmp.Ordering.TheVariants.{Less}
use Rattle.std.proofs.lemmas.Bool.Decides.{nat_tests}
use Rattle.std.proofs.lemmas.Bool.{eq-eqb, ne_eqb, lt-ltb, le-ltb, le-leb, lt-leb, cases_order}
use Rattle.std.proofs.lemmas.List.{length-drop, take_all}
use Rattle.number_pairs.specs.declared.pairs.Pair.{Pair}
use Rattle.number_pairs.specs.Keyed.{pair_cmp, AreSorted, has_key}
use Rattle.number_pairs.proofs.Placing.{all_at, front_is, rest_is, rising_filter}

lesser_key : (a b : Pair) → pair_cmp a b ≡ Less → a.key ≤ b.key
lesser_key a b less = grind (arith, nat_tests)

pub keys_rise : (xs : List Pair) → AreSorted xs → IsNonDecreasingBy (λ (p : Pair). p.key) xs
keys_rise [] rising i j d le lt = absurd (omega arith)
keys_rise (x ∷ xs) rising zero zero d le lt = omega arith
keys_rise (x ∷ xs) rising (suc i) zero d le lt = absurd (omega arith)
keys_rise (x ∷ xs) rising zero (suc j) d le lt =
    lesser_key x (get_or xs j d) (all_at (λ y. pair_cmp x y ≡ Less) xs j d rising.0 (omega arith))
keys_rise (x ∷ xs) rising (suc i) (suc j) d le lt = keys_rise xs rising.1 i j d (omega arith) (omega arith)

abbrev pub is_under : ℕ → Pair → Bool
is_under key y = ltb y.key key

abbrev pub is_upto : ℕ → Pair → Bool
is_upto key y = leb y.key key

abbrev pub from_key : ℕ → List Pair → List Pair
from_key key xs = filter (λ y. not (is_under key y)) xs

-- what stands from the first pair on whose key isn't less
pub begins_at : (key : ℕ) (xs : List Pair) (i : ℕ) → IsPartitionPoint (λ y. is_under key y ≡ true) (λ y. is_under key y ≡ false) xs i
    → i ≤ length xs → drop i xs ≡ from_key key xs
begins_at key xs i point le =
    rest_is (λ y. not (is_under key y)) xs i (λ k d low lt. ap not (point.0 k d low lt)) (λ k d low lt. ap not (point.1 k d low lt)) le

pub rest_rises : (key : ℕ) (xs : List Pair) → AreSorted xs → AreSorted (from_key key xs)
rest_rises key xs = rising_filter (λ y. not (is_under key y)) xs

both : (key : ℕ) (xs : List Pair) → filter (is_upto key) (from_key key xs) ≡ filter (has_key key) xs
both key [] = refl
both key (x ∷ xs) =
    elim (cases_order x.key key) [
      | inl same ↦
          rw (le-ltb x.key key (omega arith), eq-eqb x.key key same)
          (rw (le-leb x.key key (omega arith)) (ap (λ rest. x ∷ rest) (both key xs)))
      | inr (inl less) ↦ rw (lt-ltb x.key key less, ne_eqb x.key key (omega arith)) (both key xs)
      | inr (inr more) ↦ rw (le-ltb x.key key (omega arith), ne_eqb x.key key (omega arith)) (rw (lt-leb x.key key more) (both key xs))
    ]

-- and of that what stands up to the last pair whose key isn't greater
pub ends_at : (key : ℕ) (xs rest : List Pair) (i : ℕ) → rest ≡ from_key key xs
    → IsPartitionPoint (λ y. is_upto key y ≡ true) (λ y. is_upto key y ≡ false) rest i → i ≤ length rest
    → take i rest ≡ filter (has_key key) xs
ends_at key xs rest i is point le =
    front_is (is_upto key) rest i point.0 point.1 le ∙ ap (filter (is_upto key)) is ∙ both key xs

pub whole_rest : (xs : List Pair) (i : ℕ) → take (length xs - i) (drop i xs) ≡ drop i xs
whole_rest xs i = take_all (length xs - i) (drop i xs) (rw (length-drop i xs) (omega arith))
