-- What is granted lies in the rights of the principal.
use Rattle.std.proofs.Common.{ℕ, ◌≡◌, ◌≢◌, ◌^◌, ◌<◌, Bool, true, false, cond, None, Some, ap, refl, subst, arith, eq-eqb, eqb-true}
use Rattle.std.specs.Prelude.{bit_and, bit_or, is_none, unwrap_or}
use Rattle.std.proofs.lemmas.Nat.{and_comm, and-not, or_of_32, and_le_r}
use Rattle.std.proofs.lemmas.Nat.Bits.{bit_at_and, bit_at_or, and_pow, bit_at-lt, same_from_bits}
use Rattle.std.specs.Int.{bit_at}
use Rattle.scm_model.specs.declared.flat.Principal.{Principal}
use Rattle.scm_model.specs.declared.flat.Principal.TheVariants.{Admin, User}
use Rattle.scm_model.specs.declared.codes.TheConstants.{MAXIMUM_ALLOWED}
use Rattle.access_mask.specs.Granted.{chosen, connected, granted, granted_of, is_allowed, map_generic, mapped, rights_of}
use Rattle.scm_text.specs.Numbers.{has_bits, without_bits}

or_within : (r a b : ℕ) → bit_and r a ≡ a → bit_and r b ≡ b → bit_and r (bit_or a b) ≡ bit_or a b
or_within r a b ha hb = same_from_bits _ _ (λ i.
    let x = bit_at_and r (bit_or a b) i in
    let y = bit_at_or a b i in
    let u = bit_at_and r a i in
    let v = bit_at_and r b i in
    let p : bit_at (bit_and r a) i ≡ bit_at a i = ap (λ n. bit_at n i) ha in
    let q : bit_at (bit_and r b) i ≡ bit_at b i = ap (λ n. bit_at n i) hb in
    omega arith)

-- a mask without that bit stays as it is
no_maximum : (mask : ℕ) → mask < 2 ^ 32 → has_bits mask MAXIMUM_ALLOWED ≡ false → without_bits mask MAXIMUM_ALLOWED ≡ mask
no_maximum mask small lacks =
    let parts = and-not 32 0x02000000 mask (omega arith) small in
    let bit = and_pow mask 25 in
    let below = bit_at-lt mask 25 in
    let other : bit_and mask 0x02000000 ≢ 0x02000000 = (λ e. let t = eq-eqb (bit_and mask 0x02000000) 0x02000000 e in absurd (cc)) in
    let none : bit_and mask 0x02000000 ≡ 0 = omega arith in
    let swapped = and_comm mask 0x02000000 in
    let turned = and_comm mask 0xFDFFFFFF in
    omega arith

mapped_small : (desired generic mapping : ℕ) → mapping < 2 ^ 32 → mapped desired generic mapping < 2 ^ 32
mapped_small desired generic mapping small =
    elim (has_bits desired generic) as (λ b. cond b mapping 0 < 2 ^ 32) [ true ↦ small | false ↦ omega arith ]

parts_small : (read write execute everything desired : ℕ) → read < 2 ^ 32 → write < 2 ^ 32 → execute < 2 ^ 32 → everything < 2 ^ 32
    → bit_or (without_bits desired 0xF0000000) (bit_or (mapped desired 0x80000000 read) (bit_or (mapped desired 0x40000000 write)
    (bit_or (mapped desired 0x20000000 execute) (mapped desired 0x10000000 everything)))) < 2 ^ 32
parts_small read write execute everything desired r w x e =
    let low : bit_and desired 0x0FFFFFFF < 2 ^ 32 = (let t = and_le_r desired 0x0FFFFFFF in omega arith) in
    or_of_32 _ _ low (or_of_32 _ _ (mapped_small desired 0x80000000 read r) (or_of_32 _ _ (mapped_small desired 0x40000000 write w)
    (or_of_32 _ _ (mapped_small desired 0x20000000 execute x) (mapped_small desired 0x10000000 everything e))))

mask_small : (manager : Bool) (desired : ℕ) → map_generic manager desired < 2 ^ 32
mask_small true desired = parts_small 0x20014 0x20022 0x20009 0xF003F desired (omega arith) (omega arith) (omega arith) (omega arith)
mask_small false desired = parts_small 0x2008D 0x20002 0x20170 0xF01FF desired (omega arith) (omega arith) (omega arith) (omega arith)

chosen_within : (mask rights : ℕ) → mask < 2 ^ 32 → bit_and rights rights ≡ rights → is_allowed mask rights ≡ true
    → bit_and rights (chosen mask rights) ≡ chosen mask rights
chosen_within mask rights small own allowed =
    elim (has_bits mask MAXIMUM_ALLOWED) as (λ b. has_bits mask MAXIMUM_ALLOWED ≡ b
    → bit_and rights (cond b rights mask) ≡ cond b rights mask) [
      | true ↦ λ e. own
      | false ↦ λ e. subst (λ m. bit_and rights m ≡ m) (no_maximum mask small e)
          (eqb-true (bit_and rights (without_bits mask MAXIMUM_ALLOWED)) (without_bits mask MAXIMUM_ALLOWED) allowed)
    ] refl

connected_within : (manager : Bool) (mask rights : ℕ) → bit_and rights mask ≡ mask → (manager ≡ true → bit_and rights 1 ≡ 1)
    → bit_and rights (connected manager mask) ≡ connected manager mask
connected_within true mask rights lies one = or_within rights mask 1 lies (one refl)
connected_within false mask rights lies one = lies

of_granted : (mask rights : ℕ) (manager : Bool) → mask < 2 ^ 32 → bit_and rights rights ≡ rights → (manager ≡ true → bit_and rights 1 ≡ 1)
    → is_none (granted_of mask rights manager) ≡ false → has_bits rights (unwrap_or (granted_of mask rights manager) 0) ≡ true
of_granted mask rights manager small own one given =
    elim (is_allowed mask rights) as (λ b. is_allowed mask rights ≡ b →
    is_none (cond b (Some (connected manager (chosen mask rights))) None) ≡ false
    → has_bits rights (unwrap_or (cond b (Some (connected manager (chosen mask rights))) None) 0) ≡ true) [
      | true ↦ λ e g. eq-eqb _ _ (connected_within manager (chosen mask rights) rights (chosen_within mask rights small own e) one)
      | false ↦ λ e g. absurd (cc)
    ] refl given

pub granted_within : (principal : Principal) (manager : Bool) (desired : ℕ) → is_none (granted principal manager desired) ≡ false
    → has_bits (rights_of principal manager) (unwrap_or (granted principal manager desired) 0) ≡ true
granted_within Admin true desired given = of_granted (map_generic true desired) (rights_of Admin true) true (mask_small true desired) refl
    (λ e. refl) given
granted_within Admin false desired given = of_granted (map_generic false desired) (rights_of Admin false) false
    (mask_small false desired) refl (λ e. refl) given
granted_within User true desired given = of_granted (map_generic true desired) (rights_of User true) true (mask_small true desired) refl
    (λ e. refl) given
granted_within User false desired given = of_granted (map_generic false desired) (rights_of User false) false
    (mask_small false desired) refl (λ e. refl) given

-- a part of such a mask too
pub narrowed_within : (rights mask other : ℕ) → has_bits rights mask ≡ true → has_bits rights (bit_and mask other) ≡ true
narrowed_within rights mask other within =
    eq-eqb (bit_and rights (bit_and mask other)) (bit_and mask other) (same_from_bits _ _ (λ i.
    let x = bit_at_and rights (bit_and mask other) i in
    let y = bit_at_and mask other i in
    let u = bit_at_and rights mask i in
    let p : bit_at (bit_and rights mask) i ≡ bit_at mask i = ap (λ n. bit_at n i) (eqb-true (bit_and rights mask) mask within) in
    omega arith))
