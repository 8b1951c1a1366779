-- Pairs of a key and a number, in order.
use Rattle.std.specs.Prelude.{ℕ, ◌≡◌, ◌==◌, Bool, not, List, [], ◌∷◌, ◌++◌, filter, map, if◌then◌else◌, ⊤}
use Rattle.std.specs.List.{AllByRecursion, list_any}
use Rattle.std.specs.Ordering.{nat_cmp, ordering_then, is_eq, is_gt, is_lt}
use Rattle.std.specs.declared.cmp.Ordering.{Ordering}
use Rattle.std.specs.declared.cmp.Ordering.TheVariants.{Less}
use Rattle.number_pairs.specs.declared.pairs.Pair.{Pair}

-- by key, and then by number
abbrev pub pair_cmp : Pair → Pair → Ordering
pair_cmp a b = ordering_then (nat_cmp a.key b.key) (nat_cmp a.number b.number)

-- each pair is less than those after it
abbrev pub AreSorted : List Pair → Type 0
AreSorted [] = ⊤
AreSorted (pair ∷ pairs) = AllByRecursion (λ other. pair_cmp pair other ≡ Less) pairs × AreSorted pairs

abbrev pub has_pair : List Pair → Pair → Bool
has_pair pairs pair = list_any (λ other. is_eq (pair_cmp other pair)) pairs

-- the lesser pairs, this one, and the greater ones
abbrev pub with_pair : List Pair → Pair → List Pair
with_pair pairs pair =
    filter (λ other. is_lt (pair_cmp other pair)) pairs ++ pair ∷ filter (λ other. is_gt (pair_cmp other pair)) pairs

abbrev pub without_pair : List Pair → Pair → List Pair
without_pair pairs pair = filter (λ other. not (is_eq (pair_cmp other pair))) pairs

-- ## The numbers under a key

abbrev pub has_key : ℕ → Pair → Bool
has_key key pair = pair.key == key

abbrev pub numbers_under : ℕ → List Pair → List ℕ
numbers_under key pairs = map (λ (pair : Pair). pair.number) (filter (has_key key) pairs)

-- the numbers under a key change, and those under each other key stay
abbrev pub ChangesUnder : ℕ → List Pair → List Pair → (List ℕ → List ℕ) → Type 0
ChangesUnder key old new change =
    (other : ℕ) → numbers_under other new ≡ (if key == other then change (numbers_under other old) else numbers_under other old)
