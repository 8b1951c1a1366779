-- Where a pair stands among pairs that rise.
use Rattle.std.proofs.Common.{ℕ, ◌≡◌, ◌<◌, ◌≤◌, ◌+◌, ◌∙◌, inl, inr, zero, suc, Bool, true, false, not, ◌||◌, cond, List, [], ◌∷◌, ◌++◌}
use Rattle.std.proofs.Common.{refl, sym, ap, subst, length, length-append, get_or, take, drop, filter, arith, insert, remove}
use Rattle.std.specs.List.{AllByRecursion, AllWithin, HoldsAt}
use Rattle.std.specs.Cmp.{IsTotalOrder}
use Rattle.std.specs.List.Sorted.{IsNonDecreasingBy, IsPartitionPoint}
use Rattle.std.specs.Ordering.{nat_cmp, ordering_index, ordering_reverse, is_eq, is_gt, is_lt}
use Rattle.std.specs.declared.cmp.Ordering.TheVariants.{Less, Equal, Greater}
use Rattle.std.proofs.lemmas.Bool.Decides.{nat_tests}
use Rattle.std.proofs.lemmas.Bool.{cases_lt}
use Rattle.std.proofs.lemmas.Cmp.{nat_cmp_total, on_total, then_total}
use Rattle.std.proofs.lemmas.Map.Lookups.{exact_pairs, exact_unsigned}
use Rattle.number_pairs.specs.declared.pairs.Pair.{Pair}
use Rattle.number_pairs.specs.Keyed.{pair_cmp, AreSorted, has_pair, with_pair, without_pair}

-- ## The order

pub pairs_total : IsTotalOrder pair_cmp
pairs_total = then_total (on_total (λ (p : Pair). p.key) nat_cmp_total) (on_total (λ (p : Pair). p.number) nat_cmp_total)

pub same_pair : (a b : Pair) → pair_cmp a b ≡ Equal → a ≡ b
same_pair a b h =
    ap (λ (p : ℕ × ℕ). record { key = p.0; number = p.1 })
    (exact_pairs nat_cmp nat_cmp exact_unsigned exact_unsigned (a.key, a.number) (b.key, b.number) h)

-- of two pairs with one key the lesser has the lesser number
pub lesser_number : (a b : Pair) → pair_cmp a b ≡ Less → a.key ≡ b.key → a.number < b.number
lesser_number a b less same = grind (arith, nat_tests)

flipped : (a b : Pair) → pair_cmp a b ≡ Less → pair_cmp b a ≡ Greater
flipped a b less = pairs_total.antisymm b a ∙ ap ordering_reverse less

pub flipped_back : (a b : Pair) → pair_cmp a b ≡ Greater → pair_cmp b a ≡ Less
flipped_back a b greater = pairs_total.antisymm b a ∙ ap ordering_reverse greater

-- a greater pair compares no lower
compares_higher : (a b p : Pair) → pair_cmp a b ≡ Less → ordering_index (pair_cmp a p) ≤ ordering_index (pair_cmp b p)
compares_higher a b p less = elim (pair_cmp a p) as (λ o. pair_cmp a p ≡ o → ordering_index o ≤ ordering_index (pair_cmp b p)) [
  | Less ↦ λ e. omega arith
  | Equal ↦ λ e. rw (flipped p b (sym (pairs_total.congr a p b e) ∙ less)) (omega arith)
  | Greater ↦ λ e. rw (flipped p b (pairs_total.trans p a b (flipped_back a p e) less)) (omega arith)
] refl

-- all are greater than a pair
abbrev pub Behind : Pair → List Pair → Type 0
Behind x xs = AllByRecursion (λ y. pair_cmp x y ≡ Less) xs

abbrev pub Above : Pair → List Pair → Type 0
Above p xs = AllByRecursion (λ y. pair_cmp y p ≡ Greater) xs

-- where a pair has its place: those before it are less, and those from it on greater
abbrev pub IsPlace : List Pair → ℕ → Pair → Type 0
IsPlace xs i p = IsPartitionPoint (λ y. pair_cmp y p ≡ Less) (λ y. pair_cmp y p ≡ Greater) xs i

-- ## Tests of each pair

filter_all : (test : Pair → Bool) (xs : List Pair) → AllByRecursion (λ y. test y ≡ true) xs → filter test xs ≡ xs
filter_all test [] all = refl
filter_all test (x ∷ xs) all = rw all.0 (ap (λ rest. x ∷ rest) (filter_all test xs all.1))

filter_none : (test : Pair → Bool) (xs : List Pair) → AllByRecursion (λ y. test y ≡ false) xs → filter test xs ≡ []
filter_none test [] all = refl
filter_none test (x ∷ xs) all = rw all.0 (filter_none test xs all.1)

all_weaker : (P Q : Pair → Type 0) → ((x : Pair) → P x → Q x) → (xs : List Pair) → AllByRecursion P xs → AllByRecursion Q xs
all_weaker P Q f [] all = tt
all_weaker P Q f (x ∷ xs) all = (f x all.0, all_weaker P Q f xs all.1)

all_from : (P : Pair → Type 0) (xs : List Pair) → AllWithin P xs 0 (length xs) → AllByRecursion P xs
all_from P [] all = tt
all_from P (x ∷ xs) all =
    (all 0 x (omega arith) (omega arith), all_from P xs (λ k d low lt. all (suc k) d (omega arith) (omega arith)))

pub all_at : (P : Pair → Type 0) (xs : List Pair) (k : ℕ) (d : Pair) → AllByRecursion P xs → k < length xs → P (get_or xs k d)
all_at P [] k d all lt = absurd (omega arith)
all_at P (x ∷ xs) zero d all lt = all.0
all_at P (x ∷ xs) (suc k) d all lt = all_at P xs k d all.1 (omega arith)

pub compare_rising : (xs : List Pair) (p : Pair) → AreSorted xs → IsNonDecreasingBy (λ y. ordering_index (pair_cmp y p)) xs
compare_rising [] p rising i j d le lt = absurd (omega arith)
compare_rising (x ∷ xs) p rising zero zero d le lt = omega arith
compare_rising (x ∷ xs) p rising (suc i) zero d le lt = absurd (omega arith)
compare_rising (x ∷ xs) p rising zero (suc j) d le lt =
    compares_higher x (get_or xs j d) p (all_at (λ y. pair_cmp x y ≡ Less) xs j d rising.0 (omega arith))
compare_rising (x ∷ xs) p rising (suc i) (suc j) d le lt = compare_rising xs p rising.1 i j d (omega arith) (omega arith)

-- a front that passes, with none that passes after it, is what passes
pub front_is : (test : Pair → Bool) (xs : List Pair) (i : ℕ) → AllWithin (λ y. test y ≡ true) xs 0 i
    → AllWithin (λ y. test y ≡ false) xs i (length xs) → i ≤ length xs → take i xs ≡ filter test xs
front_is test [] zero pass fail le = refl
front_is test [] (suc i) pass fail le = refl
front_is test (x ∷ xs) zero pass fail le = sym (filter_none test (x ∷ xs) (all_from (λ y. test y ≡ false) (x ∷ xs) fail))
front_is test (x ∷ xs) (suc i) pass fail le =
    rw (pass 0 x (omega arith) (omega arith))
    (ap (λ rest. x ∷ rest) (front_is test xs i (λ k d low lt. pass (suc k) d (omega arith) (omega arith))
    (λ k d low lt. fail (suc k) d (omega arith) (omega arith)) (omega arith)))

-- the same of what stands behind a front
pub rest_is : (test : Pair → Bool) (xs : List Pair) (i : ℕ) → AllWithin (λ y. test y ≡ false) xs 0 i
    → AllWithin (λ y. test y ≡ true) xs i (length xs) → i ≤ length xs → drop i xs ≡ filter test xs
rest_is test [] zero fail pass le = refl
rest_is test [] (suc i) fail pass le = refl
rest_is test (x ∷ xs) zero fail pass le = sym (filter_all test (x ∷ xs) (all_from (λ y. test y ≡ true) (x ∷ xs) pass))
rest_is test (x ∷ xs) (suc i) fail pass le =
    rw (fail 0 x (omega arith) (omega arith))
    (rest_is test xs i (λ k d low lt. fail (suc k) d (omega arith) (omega arith))
    (λ k d low lt. pass (suc k) d (omega arith) (omega arith)) (omega arith))

-- ## A pair more

pub with_lesser : (x : Pair) (xs : List Pair) (p : Pair) → pair_cmp x p ≡ Less → with_pair (x ∷ xs) p ≡ x ∷ with_pair xs p
with_lesser x xs p less = rw less refl

-- all that stand behind one that isn't less are greater
greater_behind : (x : Pair) (xs : List Pair) (p : Pair) → (pair_cmp x p ≡ Less → ⊥) → Behind x xs
    → Above p xs
greater_behind x xs p unless rising = all_weaker (λ y. pair_cmp x y ≡ Less) (λ y. pair_cmp y p ≡ Greater)
    (λ y less. elim (pair_cmp x p) as (λ o. pair_cmp x p ≡ o → pair_cmp y p ≡ Greater) [
      | Less ↦ λ e. absurd (unless e)
      | Equal ↦ λ e. flipped p y (sym (pairs_total.congr x p y e) ∙ less)
      | Greater ↦ λ e. flipped p y (pairs_total.trans p x y (flipped_back x p e) less)
    ] refl) xs rising

none_lesser : (xs : List Pair) (p : Pair) → Above p xs → filter (λ y. is_lt (pair_cmp y p)) xs ≡ []
none_lesser xs p above = filter_none (λ y. is_lt (pair_cmp y p)) xs
    (all_weaker (λ y. pair_cmp y p ≡ Greater) (λ y. is_lt (pair_cmp y p) ≡ false) (λ y h. ap is_lt h) xs above)

all_greater : (xs : List Pair) (p : Pair) → Above p xs → filter (λ y. is_gt (pair_cmp y p)) xs ≡ xs
all_greater xs p above = filter_all (λ y. is_gt (pair_cmp y p)) xs
    (all_weaker (λ y. pair_cmp y p ≡ Greater) (λ y. is_gt (pair_cmp y p) ≡ true) (λ y h. ap is_gt h) xs above)

pub with_same : (x : Pair) (xs : List Pair) (p : Pair) → pair_cmp x p ≡ Equal → Behind x xs
    → with_pair (x ∷ xs) p ≡ x ∷ xs
with_same x xs p same rising =
    let behind = greater_behind x xs p (λ less. absurd (cc (sym less ∙ same))) rising in
    rw (same, none_lesser xs p behind, all_greater xs p behind) (ap (λ y. y ∷ xs) (sym (same_pair x p same)))

pub with_greater : (x : Pair) (xs : List Pair) (p : Pair) → pair_cmp x p ≡ Greater → Behind x xs
    → with_pair (x ∷ xs) p ≡ p ∷ x ∷ xs
with_greater x xs p greater rising =
    let behind = greater_behind x xs p (λ less. absurd (cc (sym less ∙ greater))) rising in
    rw (greater, none_lesser xs p behind, all_greater xs p behind) refl

-- a pair that is less than the first is less than all
pub below_all : (x : Pair) (xs : List Pair) (p : Pair) → pair_cmp x p ≡ Greater → Behind x xs
    → Behind p (x ∷ xs)
below_all x xs p greater rising =
    let less = flipped_back x p greater in
    (less, all_weaker (λ y. pair_cmp x y ≡ Less) (λ y. pair_cmp p y ≡ Less) (λ y h. pairs_total.trans p x y less h) xs rising)

insert_is : (xs : List Pair) (i : ℕ) (p : Pair) → i ≤ length xs → insert xs i p ≡ take i xs ++ p ∷ drop i xs
insert_is [] zero p le = refl
insert_is [] (suc i) p le = absurd (omega arith)
insert_is (x ∷ xs) zero p le = refl
insert_is (x ∷ xs) (suc i) p le = ap (λ rest. x ∷ rest) (insert_is xs i p (omega arith))

-- it goes between the lesser and the greater ones
pub inserted_is : (xs : List Pair) (i : ℕ) (p : Pair) → IsPlace xs i p → i ≤ length xs → insert xs i p ≡ with_pair xs p
inserted_is xs i p place le =
    let front = front_is (λ y. is_lt (pair_cmp y p)) xs i (λ k d low lt. ap is_lt (place.0 k d low lt))
    (λ k d low lt. ap is_lt (place.1 k d low lt)) le in
    let back = rest_is (λ y. is_gt (pair_cmp y p)) xs i (λ k d low lt. ap is_gt (place.0 k d low lt))
    (λ k d low lt. ap is_gt (place.1 k d low lt)) le in
    insert_is xs i p le ∙ ap (λ ys. ys ++ p ∷ drop i xs) front ∙ ap (λ ys. filter (λ y. is_lt (pair_cmp y p)) xs ++ p ∷ ys) back

-- one that is there stays
pub with_found : (xs : List Pair) (i : ℕ) (p : Pair) → AreSorted xs → i < length xs → HoldsAt (λ y. pair_cmp y p ≡ Equal) xs i
    → with_pair xs p ≡ xs
with_found [] i p rising lt is = absurd (omega arith)
with_found (x ∷ xs) zero p rising lt is = with_same x xs p (is x) rising.0
with_found (x ∷ xs) (suc i) p rising lt is =
    let there : get_or xs i x ≡ p = same_pair (get_or xs i x) p (is x) in
    let less = subst (λ y. pair_cmp x y ≡ Less) there (all_at (λ y. pair_cmp x y ≡ Less) xs i x rising.0 (omega arith)) in
    with_lesser x xs p less ∙ ap (λ rest. x ∷ rest) (with_found xs i p rising.1 (omega arith) is)

all_with : (P : Pair → Type 0) (xs : List Pair) (p : Pair) → AreSorted xs → AllByRecursion P xs → P p → AllByRecursion P (with_pair xs p)
all_with P [] p rising all one = (one, tt)
all_with P (x ∷ xs) p rising all one =
    elim (pair_cmp x p) as (λ o. pair_cmp x p ≡ o → AllByRecursion P (with_pair (x ∷ xs) p)) [
      | Less ↦ λ e. subst (AllByRecursion P) (sym (with_lesser x xs p e)) (all.0, all_with P xs p rising.1 all.1 one)
      | Equal ↦ λ e. subst (AllByRecursion P) (sym (with_same x xs p e rising.0)) all
      | Greater ↦ λ e. subst (AllByRecursion P) (sym (with_greater x xs p e rising.0)) (one, all)
    ] refl

pub rising_with : (xs : List Pair) (p : Pair) → AreSorted xs → AreSorted (with_pair xs p)
rising_with [] p rising = (tt, tt)
rising_with (x ∷ xs) p rising =
    elim (pair_cmp x p) as (λ o. pair_cmp x p ≡ o → AreSorted (with_pair (x ∷ xs) p)) [
      | Less ↦ λ e.
          subst AreSorted (sym (with_lesser x xs p e))
          (all_with (λ y. pair_cmp x y ≡ Less) xs p rising.1 rising.0 e, rising_with xs p rising.1)
      | Equal ↦ λ e. subst AreSorted (sym (with_same x xs p e rising.0)) rising
      | Greater ↦ λ e. subst AreSorted (sym (with_greater x xs p e rising.0)) (below_all x xs p e rising.0, rising)
    ] refl

few_others : (xs : List Pair) (p : Pair)
    → length (filter (λ y. is_lt (pair_cmp y p)) xs) + length (filter (λ y. is_gt (pair_cmp y p)) xs) ≤ length xs
few_others [] p = omega arith
few_others (x ∷ xs) p =
    let lesser = filter (λ y. is_lt (pair_cmp y p)) xs in
    let greater = filter (λ y. is_gt (pair_cmp y p)) xs in
    elim (pair_cmp x p) as (λ o. length (cond (is_lt o) (x ∷ lesser) lesser) + length (cond (is_gt o) (x ∷ greater) greater) ≤ suc
    (length xs)) [
      | Less ↦ omega (arith, few_others xs p)
      | Equal ↦ omega (arith, few_others xs p)
      | Greater ↦ omega (arith, few_others xs p)
    ]

-- one more at most
pub one_more : (xs : List Pair) (p : Pair) → length (with_pair xs p) ≤ length xs + 1
one_more xs p =
    let lesser = filter (λ y. is_lt (pair_cmp y p)) xs in
    let greater = filter (λ y. is_gt (pair_cmp y p)) xs in
    omega (arith, length-append lesser (p ∷ greater), few_others xs p)

-- ## A pair less

all_filter : (P : Pair → Type 0) (test : Pair → Bool) (xs : List Pair) → AllByRecursion P xs → AllByRecursion P (filter test xs)
all_filter P test [] all = tt
all_filter P test (x ∷ xs) all =
    elim (test x) as (λ b. AllByRecursion P (cond b (x ∷ filter test xs) (filter test xs))) [
      | true ↦ (all.0, all_filter P test xs all.1)
      | false ↦ all_filter P test xs all.1
    ]

pub rising_filter : (test : Pair → Bool) (xs : List Pair) → AreSorted xs → AreSorted (filter test xs)
rising_filter test [] rising = tt
rising_filter test (x ∷ xs) rising =
    elim (test x) as (λ b. AreSorted (cond b (x ∷ filter test xs) (filter test xs))) [
      | true ↦ (all_filter (λ y. pair_cmp x y ≡ Less) test xs rising.0, rising_filter test xs rising.1)
      | false ↦ rising_filter test xs rising.1
    ]

pub rising_without : (xs : List Pair) (p : Pair) → AreSorted xs → AreSorted (without_pair xs p)
rising_without xs p = rising_filter (λ y. not (is_eq (pair_cmp y p))) xs

none_equal : (x : Pair) (xs : List Pair) (p : Pair) → pair_cmp x p ≡ Equal → Behind x xs → without_pair xs p ≡ xs
none_equal x xs p same rising =
    let behind = greater_behind x xs p (λ less. absurd (cc (sym less ∙ same))) rising in
    filter_all (λ y. not (is_eq (pair_cmp y p))) xs
    (all_weaker (λ y. pair_cmp y p ≡ Greater) (λ y. not (is_eq (pair_cmp y p)) ≡ true) (λ y h. ap (λ o. not (is_eq o)) h) xs behind)

pub removed_is : (xs : List Pair) (i : ℕ) (p : Pair) → AreSorted xs → i < length xs → HoldsAt (λ y. pair_cmp y p ≡ Equal) xs i
    → remove xs i ≡ without_pair xs p
removed_is [] i p rising lt is = absurd (omega arith)
removed_is (x ∷ xs) zero p rising lt is = rw (is x) (sym (none_equal x xs p (is x) rising.0))
removed_is (x ∷ xs) (suc i) p rising lt is =
    let there : get_or xs i x ≡ p = same_pair (get_or xs i x) p (is x) in
    let less = subst (λ y. pair_cmp x y ≡ Less) there (all_at (λ y. pair_cmp x y ≡ Less) xs i x rising.0 (omega arith)) in
    rw less (ap (λ rest. x ∷ rest) (removed_is xs i p rising.1 (omega arith) is))

-- a pair isn't there where those before a place are less and those from it on greater
apart : (xs : List Pair) (i : ℕ) (p : Pair) → IsPlace xs i p
    → AllByRecursion (λ y. is_eq (pair_cmp y p) ≡ false) xs
apart xs i p place = all_from (λ y. is_eq (pair_cmp y p) ≡ false) xs (λ k d low lt.
    elim (cases_lt k i) [
      | inl less ↦ ap is_eq (place.0 k d (omega arith) less)
      | inr more ↦ ap is_eq (place.1 k d more lt)
    ])

pub absent_is : (xs : List Pair) (i : ℕ) (p : Pair) → IsPlace xs i p
    → without_pair xs p ≡ xs
absent_is xs i p place = filter_all (λ y. not (is_eq (pair_cmp y p))) xs
    (all_weaker (λ y. is_eq (pair_cmp y p) ≡ false) (λ y. not (is_eq (pair_cmp y p)) ≡ true) (λ y h. ap not h) xs
    (apart xs i p place))

has_none : (xs : List Pair) (p : Pair) → AllByRecursion (λ y. is_eq (pair_cmp y p) ≡ false) xs → has_pair xs p ≡ false
has_none [] p all = refl
has_none (x ∷ xs) p all = rw all.0 (has_none xs p all.1)

pub absent : (xs : List Pair) (i : ℕ) (p : Pair) → IsPlace xs i p
    → has_pair xs p ≡ false
absent xs i p place = has_none xs p (apart xs i p place)

-- never more
pub no_more : (xs : List Pair) (p : Pair) → length (without_pair xs p) ≤ length xs
no_more [] p = omega arith
no_more (x ∷ xs) p =
    elim (is_eq (pair_cmp x p)) as (λ b. length (cond (not b) (x ∷ without_pair xs p) (without_pair xs p)) ≤ suc (length xs)) [
      | true ↦ omega (arith, no_more xs p)
      | false ↦ omega (arith, no_more xs p)
    ]

-- one that is taken out leaves one less
pub fewer : (xs : List Pair) (p : Pair) → has_pair xs p ≡ true → length (without_pair xs p) + 1 ≤ length xs
fewer [] p has = absurd (cc has)
fewer (x ∷ xs) p has =
    elim (is_eq (pair_cmp x p)) as (λ b. b || has_pair xs p ≡ true
    → length (cond (not b) (x ∷ without_pair xs p) (without_pair xs p)) + 1 ≤ suc (length xs)) [
      | true ↦ λ h. omega (arith, no_more xs p)
      | false ↦ λ h. omega (arith, fewer xs p h)
    ] has
