-- What passes is what the first entries give, bit by bit.
use Rattle.std.proofs.Common.{ℕ, ◌≡◌, inl, inr, ◌∙◌, ◌<◌, ◌≤◌, ◌-◌, ◌^◌, Bool, true, false, List, [], ◌∷◌, refl, sym, ap, arith, Option}
use Rattle.std.proofs.Common.{None, Some}
use Rattle.std.specs.Prelude.{◌==◌, ◌&&◌, bit_and, bit_or, find}
use Rattle.std.specs.Int.{bit_at, w32}
use Rattle.std.proofs.lemmas.Bool.{cases_Bool, cases_lt, cases_order, and_from, and_parts, eqb-false, eqb-true, eq-eqb}
use Rattle.std.proofs.lemmas.Nat.{and_le_l, or_lt}
use Rattle.std.proofs.lemmas.Nat.Bits.{bit_at_above, bit_at_and, bit_at_not, bit_at_ones, bit_at_or, bit_at-lt, bit_at-zero, same_from_bits}
use Rattle.sec_desc.specs.declared.value.Ace.{Ace}
use Rattle.sec_check.specs.Allowed.{maximum, passes}
use Rattle.sec_check.specs.Laws.{AreSmall, bit_of, has_bit}
use Rattle.scm_text.specs.Numbers.{has_bits, without_bits}

-- each bit of these is one of the mask's
abbrev IsWithin : ℕ → ℕ → Type 0
IsWithin mask bits = (i : ℕ) → bit_at bits i ≤ bit_at mask i

of_has : (mask bits : ℕ) → has_bits mask bits ≡ true → IsWithin mask bits
of_has mask bits has i =
    let e : bit_at (bit_and mask bits) i ≡ bit_at bits i = ap (λ n. bit_at n i) (eqb-true (bit_and mask bits) bits has) in
    let m = bit_at_and mask bits i in
    omega (arith, e, m)

to_has : (mask bits : ℕ) → IsWithin mask bits → has_bits mask bits ≡ true
to_has mask bits within =
    eq-eqb (bit_and mask bits) bits
    (same_from_bits (bit_and mask bits) bits (λ i. (let m = bit_at_and mask bits i in let w = within i in omega (arith, m, w))))

-- what is left without a mask, bit by bit
pub without_at : (left m : ℕ) → left < 2 ^ 32 → m < 2 ^ 32 → (i : ℕ) → bit_at (without_bits left m) i ≡ bit_at left i - bit_at m i
without_at left m p q i =
    let a = bit_at_and left (2 ^ 32 - 1 - m) i in
    let la = bit_at-lt left i in
    let lm = bit_at-lt m i in
    elim (cases_order i 32) [
      | inl same ↦ (let z = bit_at_above left 32 i p (omega (arith, same)) in omega (arith, a, z))
      | inr apart ↦ elim apart [
        | inl less ↦ (let n = bit_at_not w32 m i q less in omega (arith, a, n, la, lm))
        | inr more ↦ (let z = bit_at_above left 32 i p (omega (arith, more)) in omega (arith, a, z))
      ]
    ]

both_ways : (a b : Bool) → (a ≡ true → b ≡ true) → (b ≡ true → a ≡ true) → a ≡ b
both_ways true b go back = sym (go refl)
both_ways false true go back = back refl
both_ways false false go back = refl

allow_bits : (m r left : ℕ) → m < 2 ^ 32 → left < 2 ^ 32 → has_bits r (without_bits left m) ≡ has_bits (bit_or m r) left
allow_bits m r left p s =
    both_ways (has_bits r (without_bits left m)) (has_bits (bit_or m r) left)
    (λ has. to_has (bit_or m r) left
    (λ i. (let w = of_has r (without_bits left m) has i in let e = without_at left m s p i in let o = bit_at_or m r i in
    let a = bit_at-lt left i in let b = bit_at-lt m i in omega (arith, w, e, o, a, b))))
    (λ has. to_has r (without_bits left m)
    (λ i. (let w = of_has (bit_or m r) left has i in let e = without_at left m s p i in let o = bit_at_or m r i in
    let a = bit_at-lt left i in let b = bit_at-lt m i in let c = bit_at-lt r i in omega (arith, w, e, o, a, b, c))))

deny_bits : (m r left : ℕ) → m < 2 ^ 32 → r < 2 ^ 32 → left < 2 ^ 32
    → (bit_and left m == 0) && has_bits r left ≡ has_bits (without_bits r m) left
deny_bits m r left p q s =
    both_ways ((bit_and left m == 0) && has_bits r left) (has_bits (without_bits r m) left)
    (λ is. (let two = and_parts (bit_and left m == 0) (has_bits r left) is in
    to_has (without_bits r m) left (λ i.
    (let none : bit_at (bit_and left m) i ≡ 0 = ap (λ n. bit_at n i) (eqb-true (bit_and left m) 0 two.0) ∙ bit_at-zero i in
    let d = bit_at_and left m i in let w = of_has r left two.1 i in let e = without_at r m q p i in
    let a = bit_at-lt left i in let b = bit_at-lt m i in let c = bit_at-lt r i in omega (arith, none, d, w, e, a, b, c)))))
    (λ has. and_from (bit_and left m == 0) (has_bits r left)
    (eq-eqb (bit_and left m) 0 (same_from_bits (bit_and left m) 0
    (λ i. (let d = bit_at_and left m i in let w = of_has (without_bits r m) left has i in
    let e = without_at r m q p i in let z = bit_at-zero i in
    let a = bit_at-lt left i in let b = bit_at-lt m i in let c = bit_at-lt r i in omega (arith, d, w, e, z, a, b, c)))))
    (to_has r left (λ i. (let w = of_has (without_bits r m) left has i in let e = without_at r m q p i in omega (arith, w, e)))))

pub fewer : (a b : ℕ) → a < 2 ^ 32 → without_bits a b < 2 ^ 32
fewer a b p = (let le = and_le_l a (2 ^ 32 - 1 - b) in omega (arith, le, p))

pub small : (aces : List Ace) → AreSmall aces → maximum aces < 2 ^ 32
unfolding maximum
small [] all = omega arith
small (ace ∷ aces) all =
    let rest = small aces all.1 in
    elim (cases_Bool ace.deny) [
      | inl is ↦ rw is (fewer (maximum aces) ace.mask rest)
      | inr is ↦ rw is
          (or_lt 32 ace.mask (maximum aces) all.0 rest)
    ]

nothing : (left : ℕ) → (left == 0) ≡ has_bits 0 left
nothing left =
    both_ways (left == 0) (has_bits 0 left)
    (λ is. (let none = eqb-true left 0 is in
    to_has 0 left (λ i. (let e : bit_at left i ≡ bit_at 0 i = ap (λ n. bit_at n i) none in omega (arith, e)))))
    (λ has. eq-eqb left 0 (same_from_bits left 0 (λ i. (let w = of_has 0 left has i in let z = bit_at-zero i in omega (arith, w, z)))))

pub passes_by_bits : (aces : List Ace) (left : ℕ) → AreSmall aces → left < 2 ^ 32 → passes left aces ≡ has_bits (maximum aces) left
unfolding maximum passes
passes_by_bits [] left all s = nothing left
passes_by_bits (ace ∷ aces) left all s =
    elim (cases_Bool ace.deny) [
      | inl is ↦ rw is (ap (λ b. (bit_and left ace.mask == 0) && b) (passes_by_bits aces left all.1 s)
          ∙ deny_bits ace.mask (maximum aces) left all.0 (small aces all.1) s)
      | inr is ↦ rw is (passes_by_bits aces (without_bits left ace.mask) all.1 (fewer left ace.mask s)
          ∙ allow_bits ace.mask (maximum aces) left all.0 s)
    ]

-- all bits have any bits
pub all_bits : (bits : ℕ) → bits < 2 ^ 32 → has_bits 0xFFFFFFFF bits ≡ true
all_bits bits lt = to_has 0xFFFFFFFF bits (λ i. (let b = bit_at-lt bits i in elim (cases_lt i 32) [
  | inl less ↦ (let one = bit_at_ones 32 i less in omega (arith, one, b))
  | inr more ↦ (let z = bit_at_above bits 32 i lt more in omega (arith, z))
]))

-- ## Which entry decides

bit_small : (found : Option Ace) → bit_of found ≤ 1
bit_small None = omega arith
bit_small (Some ace) = elim (cases_Bool ace.deny) [ inl is ↦ rw is (omega arith) | inr is ↦ rw is (omega arith) ]

pub first_decides : (aces : List Ace) (i : ℕ) → AreSmall aces → bit_at (maximum aces) i ≡ bit_of (find (has_bit i) aces)
unfolding maximum
first_decides [] i all = bit_at-zero i
first_decides (ace ∷ aces) i all =
    let rest = first_decides aces i all.1 in
    let most = bit_small (find (has_bit i) aces) in
    let lt = bit_at-lt ace.mask i in
    let less = without_at (maximum aces) ace.mask (small aces all.1) all.0 i in
    let more = bit_at_or ace.mask (maximum aces) i in
    elim (cases_Bool (has_bit i ace)) [
      | inl has ↦ (let one = eqb-true (bit_at ace.mask i) 1 has in elim (cases_Bool ace.deny) [
        | inl is ↦ rw (has, is) (omega (arith, less, rest, most, one))
        | inr is ↦ rw (has, is) (omega (arith, more, rest, most, one))
      ])
      | inr has ↦ (let none = eqb-false (bit_at ace.mask i) 1 has in elim (cases_Bool ace.deny) [
        | inl is ↦ rw (has, is) (omega (arith, less, rest, none, lt))
        | inr is ↦ rw (has, is) (omega (arith, more, rest, none, lt))
      ])
    ]
