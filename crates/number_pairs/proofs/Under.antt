-- The numbers under each key, as pairs come and leave.
use Rattle.std.proofs.Common.{ℕ, ◌≡◌, ◌<◌, ◌∙◌, inl, inr, true, false, not, cond, List, [], ◌∷◌, refl, sym, ap, subst, eqb, filter, map}
use Rattle.std.proofs.Common.{arith}
use Rattle.std.specs.List.{AllByRecursion}
use Rattle.std.specs.Ordering.{is_eq}
use Rattle.std.specs.declared.cmp.Ordering.TheVariants.{Less, Equal, Greater}
use Rattle.std.proofs.lemmas.Bool.Decides.{nat_tests}
use Rattle.std.proofs.lemmas.Bool.{eq-eqb, eqb-true, ne_eqb, lt-ltb, le-ltb, cases_Bool}
use Rattle.number_lists.specs.Rising.{with_number, without_number}
use Rattle.number_lists.specs.Rising as numbers
use Rattle.number_pairs.specs.declared.pairs.Pair.{Pair}
use Rattle.number_pairs.specs.Keyed.{pair_cmp, AreSorted, with_pair, without_pair, has_key, numbers_under}
use Rattle.number_pairs.proofs.Placing.{same_pair, lesser_number, with_lesser, with_same, with_greater, below_all, Behind}

abbrev NumbersAbove : ℕ → ℕ → List Pair → Type 0
NumbersAbove n key xs = AllByRecursion (λ m. n < m) (numbers_under key xs)

-- the numbers under a key with a pair's number put in, or without it
abbrev put_in : ℕ → Pair → List ℕ → List ℕ
put_in key p ns = cond (has_key key p) (with_number ns p.number) ns

abbrev taken_out : ℕ → Pair → List ℕ → List ℕ
taken_out key p ns = cond (has_key key p) (without_number ns p.number) ns

-- the numbers under a key with that of a first pair
abbrev led_by : ℕ → Pair → List ℕ → List ℕ
led_by key x ns = cond (has_key key x) (x.number ∷ ns) ns

-- the numbers under a pair's key are above its own where all pairs are greater
numbers_above : (p : Pair) (xs : List Pair) → Behind p xs → NumbersAbove p.number p.key xs
numbers_above p [] all = tt
numbers_above p (x ∷ xs) all =
    elim (cases_Bool (has_key p.key x)) [
      | inl is ↦ rw is (lesser_number p x all.0 (sym (eqb-true x.key p.key is)), numbers_above p xs all.1)
      | inr other ↦ rw other (numbers_above p xs all.1)
    ]

pub numbers_rise : (key : ℕ) (xs : List Pair) → AreSorted xs → numbers.AreRising (numbers_under key xs)
numbers_rise key [] rising = tt
numbers_rise key (x ∷ xs) rising =
    elim (cases_Bool (has_key key x)) [
      | inl is ↦ rw is (
        subst (λ k. NumbersAbove x.number k xs) (eqb-true x.key key is)
            (numbers_above x xs rising.0),
        numbers_rise key xs rising.1,
      )
      | inr other ↦ rw other (numbers_rise key xs rising.1)
    ]

-- ## A number more

first_with : (n : ℕ) (ns : List ℕ) → AllByRecursion (λ m. n < m) ns → with_number ns n ≡ n ∷ ns
first_with n [] all = refl
first_with n (m ∷ ns) all = rw (lt-ltb n m all.0) refl

-- a pair in front of all others
put_first : (other : ℕ) (p : Pair) (xs : List Pair) → Behind p xs
    → numbers_under other (p ∷ xs) ≡ put_in other p (numbers_under other xs)
put_first other p xs all =
    elim (cases_Bool (has_key other p)) [
      | inl is ↦
          let above = subst (λ k. NumbersAbove p.number k xs) (eqb-true p.key other is) (numbers_above p xs all) in
          rw is (sym (first_with p.number (numbers_under other xs) above))
      | inr apart ↦ rw apart refl
    ]

-- a number that is there
put_again : (other : ℕ) (p : Pair) (xs : List Pair)
    → numbers_under other (p ∷ xs) ≡ put_in other p (numbers_under other (p ∷ xs))
put_again other p xs =
    elim (cases_Bool (has_key other p)) [
      | inl is ↦ rw is (rw (le-ltb p.number p.number (omega arith), eq-eqb p.number p.number refl) refl)
      | inr apart ↦ rw apart refl
    ]

-- a pair behind a lesser one
put_behind : (other : ℕ) (x p : Pair) (ns : List ℕ) → pair_cmp x p ≡ Less
    → led_by other x (put_in other p ns)
    ≡ put_in other p (led_by other x ns)
put_behind other x p ns less =
    elim (cases_Bool (has_key other p)) [
      | inl is ↦ elim (cases_Bool (has_key other x)) [
        | inl too ↦
            let lower = lesser_number x p less (eqb-true x.key other too ∙ sym (eqb-true p.key other is)) in
            rw (is, too) (rw (le-ltb p.number x.number (omega (arith, lower)), ne_eqb p.number x.number (omega (arith, lower))) refl)
        | inr apart ↦ rw (is, apart) refl
      ]
      | inr apart ↦ rw apart refl
    ]

pub put_under : (xs : List Pair) (p : Pair) → AreSorted xs → (other : ℕ)
    → numbers_under other (with_pair xs p) ≡ put_in other p (numbers_under other xs)
put_under [] p rising other = put_first other p [] tt
put_under (x ∷ xs) p rising other =
    elim (pair_cmp x p) as (λ o. pair_cmp x p ≡ o → numbers_under other (with_pair (x ∷ xs) p)
    ≡ put_in other p (numbers_under other (x ∷ xs))) [
      | Less ↦ λ e.
          ap (numbers_under other) (with_lesser x xs p e) ∙ split other x (with_pair xs p)
          ∙ ap (led_by other x) (put_under xs p rising.1 other)
          ∙ put_behind other x p (numbers_under other xs) e
          ∙ ap (put_in other p) (sym (split other x xs))
      | Equal ↦ λ e.
          ap (numbers_under other) (with_same x xs p e rising.0)
          ∙ subst (λ q. numbers_under other (x ∷ xs) ≡ put_in other q (numbers_under other (x ∷ xs))) (same_pair x p e)
          (put_again other x xs)
      | Greater ↦ λ e.
          ap (numbers_under other) (with_greater x xs p e rising.0)
          ∙ put_first other p (x ∷ xs) (below_all x xs p e rising.0)
    ] refl
  where
    split : (key : ℕ) (y : Pair) (ys : List Pair) → numbers_under key (y ∷ ys) ≡ led_by key y (numbers_under key ys)
    split key y ys = elim (has_key key y) as
        (λ b. map (λ (q : Pair). q.number) (cond b (y ∷ filter (has_key key) ys) (filter (has_key key) ys))
        ≡ cond b (y.number ∷ numbers_under key ys) (numbers_under key ys)) [ true ↦ refl | false ↦ refl ]

-- ## A number less

-- of two pairs with one key that aren't equal the numbers differ
other_number : (x p : Pair) → is_eq (pair_cmp x p) ≡ false → x.key ≡ p.key → eqb x.number p.number ≡ false
other_number x p unequal same = ne_eqb x.number p.number (λ is. absurd (equal_is x p same is unequal))
  where
    equal_is : (y q : Pair) → y.key ≡ q.key → y.number ≡ q.number → is_eq (pair_cmp y q) ≡ false → ⊥
    equal_is y q key number unequal_too = grind (arith, nat_tests)

pub drop_under : (xs : List Pair) (p : Pair) (other : ℕ)
    → numbers_under other (without_pair xs p) ≡ taken_out other p (numbers_under other xs)
drop_under [] p other =
    elim (has_key other p) as (λ b. numbers_under other [] ≡ cond b (without_number (numbers_under other []) p.number)
    (numbers_under other [])) [ true ↦ refl | false ↦ refl ]
drop_under (x ∷ xs) p other =
    elim (pair_cmp x p) as (λ o. pair_cmp x p ≡ o → numbers_under other (cond (not (is_eq o)) (x ∷ without_pair xs p) (without_pair xs p))
    ≡ taken_out other p (numbers_under other (x ∷ xs))) [
      | Less ↦ λ e. stays x xs p other (ap is_eq e) (drop_under xs p other)
      | Equal ↦ λ e. drop_under xs p other ∙ subst (λ q. taken_out other q (numbers_under other xs)
          ≡ taken_out other q (numbers_under other (x ∷ xs))) (same_pair x p e) (leaves x xs other)
      | Greater ↦ λ e. stays x xs p other (ap is_eq e) (drop_under xs p other)
    ] refl
  where
    leaves : (y : Pair) (ys : List Pair) (key : ℕ) → taken_out key y (numbers_under key ys)
        ≡ taken_out key y (numbers_under key (y ∷ ys))
    leaves y ys key = elim (cases_Bool (has_key key y)) [
      | inl is ↦ rw is (rw (eq-eqb y.number y.number refl) refl)
      | inr apart ↦ rw apart refl
    ]

    stays : (y : Pair) (ys : List Pair) (q : Pair) (key : ℕ) → is_eq (pair_cmp y q) ≡ false
        → numbers_under key (without_pair ys q) ≡ taken_out key q (numbers_under key ys)
        → numbers_under key (y ∷ without_pair ys q) ≡ taken_out key q (numbers_under key (y ∷ ys))
    stays y ys q key unequal rest = elim (cases_Bool (has_key key y)) [
      | inl is ↦ rw is (elim (cases_Bool (has_key key q)) [
        | inl too ↦
            let differ = other_number y q unequal (eqb-true y.key key is ∙ sym (eqb-true q.key key too)) in
            rw (too, differ) (ap (λ ns. y.number ∷ ns)
            (rest ∙ ap (λ b. cond b (without_number (numbers_under key ys) q.number) (numbers_under key ys)) too))
        | inr apart ↦ rw apart (ap (λ ns. y.number ∷ ns)
            (rest ∙ ap (λ b. cond b (without_number (numbers_under key ys) q.number) (numbers_under key ys)) apart))
      ])
      | inr apart ↦ rw apart rest
    ]
