-- Reading forward: what is given so far, and what the entries left give of the bits that aren't known yet.
use Rattle.std.proofs.Common.{ℕ, ◌≡◌, inl, inr, ◌<◌, ◌^◌, Bool, List, [], ◌∷◌, refl, ap, arith}
use Rattle.std.specs.Prelude.{bit_or, filter}
use Rattle.std.proofs.lemmas.Bool.{cases_Bool}
use Rattle.std.proofs.lemmas.Nat.{or_lt}
use Rattle.std.proofs.lemmas.Nat.Bits.{bit_at_or, bit_at-lt, bit_at-zero, same_from_bits}
use Rattle.scm_model.specs.declared.flat.Principal.{Principal}
use Rattle.sec_desc.specs.declared.value.Ace.{Ace}
use Rattle.sec_check.specs.declared.checking.Decided.{Decided}
use Rattle.sec_check.specs.Allowed.{decided_after, counts, maximum, with_ace}
use Rattle.sec_check.specs.Laws.{AreSmall}
use Rattle.sec_check.proofs.Masking.{fewer, small, without_at}
use Rattle.scm_text.specs.Numbers.{without_bits}

-- what the entries so far and those that are left allow together
abbrev pub merged : Decided → ℕ → ℕ
merged so_far rest = bit_or so_far.given (without_bits rest so_far.known)

denied : (rest mask known : ℕ) → rest < 2 ^ 32 → mask < 2 ^ 32 → known < 2 ^ 32
    → without_bits rest (bit_or known mask) ≡ without_bits (without_bits rest mask) known
denied rest mask known r m k =
    same_from_bits (without_bits rest (bit_or known mask)) (without_bits (without_bits rest mask) known) (λ i. (
    let a = without_at rest (bit_or known mask) r (or_lt 32 known mask k m) i in
    let b = without_at (without_bits rest mask) known (fewer rest mask r) k i in
    let c = without_at rest mask r m i in
    let d = bit_at_or known mask i in
    let e = bit_at-lt rest i in let f = bit_at-lt mask i in let g = bit_at-lt known i in omega (arith, a, b, c, d, e, f, g)))

allowed : (given rest mask known : ℕ) → rest < 2 ^ 32 → mask < 2 ^ 32 → known < 2 ^ 32
    → bit_or (bit_or given (without_bits mask known)) (without_bits rest (bit_or known mask))
    ≡ bit_or given (without_bits (bit_or mask rest) known)
allowed given rest mask known r m k =
    same_from_bits (bit_or (bit_or given (without_bits mask known)) (without_bits rest (bit_or known mask)))
    (bit_or given (without_bits (bit_or mask rest) known)) (λ i. (
    let a = bit_at_or (bit_or given (without_bits mask known)) (without_bits rest (bit_or known mask)) i in
    let b = bit_at_or given (without_bits mask known) i in
    let c = without_at mask known m k i in
    let d = without_at rest (bit_or known mask) r (or_lt 32 known mask k m) i in
    let e = bit_at_or known mask i in
    let f = bit_at_or given (without_bits (bit_or mask rest) known) i in
    let g = without_at (bit_or mask rest) known (or_lt 32 mask rest m r) k i in
    let h = bit_at_or mask rest i in
    let l = bit_at-lt rest i in let n = bit_at-lt mask i in let o = bit_at-lt known i in omega (arith, a, b, c, d, e, f, g, h, l, n, o)))

-- an entry that counts
decides : (so_far : Decided) (ace : Ace) (aces : List Ace) → AreSmall (ace ∷ aces) → so_far.known < 2 ^ 32
    → merged (decided_after so_far ace.deny ace.mask) (maximum aces) ≡ merged so_far (maximum (ace ∷ aces))
unfolding maximum
decides so_far ace aces all k =
    let r = small aces all.1 in
    elim (cases_Bool ace.deny) [
      | inl is ↦ rw is (ap (λ n. bit_or so_far.given n) (denied (maximum aces) ace.mask so_far.known r all.0 k))
      | inr is ↦ rw is (allowed so_far.given (maximum aces) ace.mask so_far.known r all.0 k)
    ]

-- of entries that are small, those that count are
pub still_small : (p : Ace → Bool) (aces : List Ace) → AreSmall aces → AreSmall (filter p aces)
still_small p [] all = tt
still_small p (ace ∷ aces) all =
    elim (cases_Bool (p ace)) [ inl is ↦ rw is (all.0, still_small p aces all.1) | inr is ↦ rw is (still_small p aces all.1) ]

-- any entry
pub goes_on : (principal : Principal) (so_far : Decided) (ace : Ace) (aces : List Ace) → AreSmall (ace ∷ aces) → so_far.known < 2 ^ 32
    → merged (with_ace principal so_far ace) (maximum (filter (counts principal) aces))
    ≡ merged so_far (maximum (filter (counts principal) (ace ∷ aces)))
goes_on principal so_far ace aces all k =
    elim (cases_Bool (counts principal ace)) [
      | inl is ↦ rw is (decides so_far ace (filter (counts principal) aces) (all.0, still_small (counts principal) aces all.1) k)
      | inr is ↦ rw is refl
    ]

pub begins : (rest : ℕ) → rest < 2 ^ 32 → merged (record { given = 0; known = 0 }) rest ≡ rest
begins rest r = same_from_bits (bit_or 0 (without_bits rest 0)) rest (λ i. (
    let a = bit_at_or 0 (without_bits rest 0) i in let b = without_at rest 0 r (omega arith) i in let z = bit_at-zero i in
    omega (arith, a, b, z)))

pub ends : (so_far : Decided) → so_far.known < 2 ^ 32 → merged so_far 0 ≡ so_far.given
ends so_far k = same_from_bits (bit_or so_far.given (without_bits 0 so_far.known)) so_far.given (λ i. (
    let a = bit_at_or so_far.given (without_bits 0 so_far.known) i in let b = without_at 0 so_far.known (omega arith) k i in
    let z = bit_at-zero i in omega (arith, a, b, z)))
