-- Bits and their letters.
use Rattle.std.proofs.Common.{◌≡◌, ℕ, ◌+◌, ◌*◌, ◌^◌, ◌<◌, Bool, true, false, List, [], ◌∷◌, ◌++◌, length, drop, cond, refl, sym, ap, ◌∙◌}
use Rattle.std.proofs.Common.{arith, inl, inr, Option, Some, None}
use Rattle.std.specs.Prelude.{◌==◌, bit_and, bit_or, bytes_eq, is_some, nat_lt, unwrap_or}
use Rattle.std.specs.Int.{bit_at}
use Rattle.std.specs.List.{AllByRecursion, list_all}
use Rattle.std.proofs.lemmas.Bool.{and_parts, cases_Bool, eqb-false, eqb-true, ltb-true}
use Rattle.std.proofs.lemmas.Nat.{or_lt}
use Rattle.std.proofs.lemmas.Nat.Bits.{and_pow, bit_at_and, bit_at_or, bit_at-lt, bit_at-zero, same_from_bits}
use Rattle.scm_text.specs.Numbers.{has_bits}
use Rattle.sddl.specs.declared.tables.Letters.{Letters}
use Rattle.sddl.specs.Reading.{bits_at, bits_from, front_bit}
use Rattle.sddl.specs.Tables.{access_rights, ace_flags, all_rights, bit_named}
use Rattle.sddl.specs.Writing.{letters_text}

-- all bits of a table
pub bits_of : List Letters → ℕ
bits_of [] = 0
bits_of (it ∷ table) = bit_or it.bit (bits_of table)

-- two letters of a table, and the one bit that they stand for
pub record IsOf (table : List Letters) (it : Letters) : Type 0 where
  a : ℕ
  b : ℕ
  power : ℕ
  pair : it.pair ≡ a ∷ b ∷ []
  named : bit_named table (a ∷ b ∷ []) ≡ Some it.bit
  bit : it.bit ≡ 2 ^ power

-- ## Masks

one_or_none : (n k : ℕ) → (bit_and n (2 ^ k) == 2 ^ k) ≡ false → bit_and n (2 ^ k) ≡ 0
one_or_none n k h =
    let p = and_pow n k in
    let l = bit_at-lt n k in
    elim (cases_Bool (bit_at n k == 0)) [
      | inl is ↦ p ∙ ap (λ x. x * 2 ^ k) (eqb-true (bit_at n k) 0 is) ∙ omega arith
      | inr is ↦
          let apart = eqb-false (bit_at n k) 0 is in
          let one : bit_at n k ≡ 1 = omega (arith, l, apart) in
          absurd (eqb-false (bit_and n (2 ^ k)) (2 ^ k) h (p ∙ ap (λ x. x * 2 ^ k) one ∙ omega arith))
    ]

with_bit : (g bits b r : ℕ) → has_bits bits b ≡ true → bit_or (bit_or g b) (bit_and bits r) ≡ bit_or g (bit_and bits (bit_or b r))
with_bit g bits b r has =
    let same = eqb-true (bit_and bits b) b has in
    same_from_bits _ _ (λ i.
    (let e : bit_at (bit_and bits b) i ≡ bit_at b i = ap (λ n. bit_at n i) same in
    omega (
      arith,
      e,
      bit_at_and bits b i,
      bit_at_or (bit_or g b) (bit_and bits r) i,
      bit_at_or g b i,
      bit_at_and bits r i,
      bit_at_or g (bit_and bits (bit_or b r)) i,
      bit_at_and bits (bit_or b r) i,
      bit_at_or b r i,
    )))

without_bit : (g bits b r : ℕ) → bit_and bits b ≡ 0 → bit_or g (bit_and bits r) ≡ bit_or g (bit_and bits (bit_or b r))
without_bit g bits b r no_bit =
    same_from_bits _ _ (λ i.
    (let e : bit_at (bit_and bits b) i ≡ 0 = ap (λ n. bit_at n i) no_bit ∙ bit_at-zero i in
    omega (
      arith,
      e,
      bit_at_and bits b i,
      bit_at_or g (bit_and bits r) i,
      bit_at_and bits r i,
      bit_at_or g (bit_and bits (bit_or b r)) i,
      bit_at_and bits (bit_or b r) i,
      bit_at_or b r i,
    )))

none_more : (g bits : ℕ) → g ≡ bit_or g (bit_and bits 0)
none_more g bits = same_from_bits _ _ (λ i. (omega (arith, bit_at_or g (bit_and bits 0) i, bit_at_and bits 0 i, bit_at-zero i)))

pub all_of : (all mask : ℕ) → has_bits all mask ≡ true → bit_or 0 (bit_and mask all) ≡ mask
all_of all mask has =
    let same = eqb-true (bit_and all mask) mask has in
    same_from_bits _ _ (λ i.
    (let e : bit_at (bit_and all mask) i ≡ bit_at mask i = ap (λ n. bit_at n i) same in
    omega (arith, e, bit_at_and all mask i, bit_at_or 0 (bit_and mask all) i, bit_at_and mask all i, bit_at-zero i)))

-- ## Letters

-- where no letters begin, nothing is read
pub ended : (table : List Letters) (got place : ℕ) (rest : List ℕ) → front_bit table rest ≡ None
    → bits_from table got place rest ≡ (got, place)
unfolding bits_from
ended table got place [] none = refl
ended table got place (a ∷ []) none = refl
ended table got place (a ∷ b ∷ rest) none = rw none refl

-- two letters of the table add their bit
pub goes_on : (table : List Letters) (got place a b bit : ℕ) (rest : List ℕ) → bit_named table (a ∷ b ∷ []) ≡ Some bit
    → bits_from table got place (a ∷ b ∷ rest) ≡ bits_from table (bit_or got bit) (place + 2) rest
unfolding bits_from
goes_on table got place a b bit rest named = rw named refl

pub letters_back : (table some : List Letters) → AllByRecursion (IsOf table) some → (bits got place : ℕ) (rest : List ℕ)
    → front_bit table rest ≡ None
    → bits_from table got place (letters_text some bits ++ rest)
    ≡ (bit_or got (bit_and bits (bits_of some)), place + length (letters_text some bits))
unfolding letters_text bits_of
letters_back table [] are bits got place rest none =
    ended table got place rest none ∙ ap (λ n. (n, place)) (none_more got bits) ∙ ap (λ n. (bit_or got (bit_and bits 0), n)) (omega arith)
letters_back table (it ∷ some) are bits got place rest none =
    let is = are.0 in
    let more = letters_text some bits in
    elim (cases_Bool (has_bits bits it.bit)) [
      | inl has ↦ rw (has, is.pair)
          (goes_on table got place is.a is.b it.bit (more ++ rest) is.named
          ∙ letters_back table some are.1 bits (bit_or got it.bit) (place + 2) rest none
          ∙ ap (λ n. (n, place + 2 + length more)) (with_bit got bits it.bit (bits_of some) has)
          ∙ ap (λ n. (bit_or got (bit_and bits (bit_or it.bit (bits_of some))), n)) (omega arith))
      | inr has ↦ rw has
          (letters_back table some are.1 bits got place rest none
          ∙ ap (λ n. (n, place + length more))
          (without_bit got bits it.bit (bits_of some) (rw is.bit (one_or_none bits is.power (rw is.bit at has)))))
    ]

-- ## Tables

pub flags_are : AllByRecursion (IsOf ace_flags) ace_flags
flags_are = (
  record { a = 79; b = 73; power = 0; pair = refl; named = refl; bit = refl },
  (
    record { a = 67; b = 73; power = 1; pair = refl; named = refl; bit = refl },
    (
      record { a = 78; b = 80; power = 2; pair = refl; named = refl; bit = refl },
      (
        record { a = 73; b = 79; power = 3; pair = refl; named = refl; bit = refl },
        (
          record { a = 73; b = 68; power = 4; pair = refl; named = refl; bit = refl },
          (
            record { a = 83; b = 65; power = 6; pair = refl; named = refl; bit = refl },
            (
              record { a = 70; b = 65; power = 7; pair = refl; named = refl; bit = refl },
              tt,
            ),
          ),
        ),
      ),
    ),
  ),
)

pub rights_are : AllByRecursion (IsOf access_rights) access_rights
rights_are = (
  record { a = 67; b = 67; power = 0; pair = refl; named = refl; bit = refl },
  (
    record { a = 68; b = 67; power = 1; pair = refl; named = refl; bit = refl },
    (
      record { a = 76; b = 67; power = 2; pair = refl; named = refl; bit = refl },
      (
        record { a = 83; b = 87; power = 3; pair = refl; named = refl; bit = refl },
        (
          record { a = 82; b = 80; power = 4; pair = refl; named = refl; bit = refl },
          (
            record { a = 87; b = 80; power = 5; pair = refl; named = refl; bit = refl },
            (
              record { a = 68; b = 84; power = 6; pair = refl; named = refl; bit = refl },
              (
                record { a = 76; b = 79; power = 7; pair = refl; named = refl; bit = refl },
                (
                  record { a = 67; b = 82; power = 8; pair = refl; named = refl; bit = refl },
                  (
                    record { a = 83; b = 68; power = 16; pair = refl; named = refl; bit = refl },
                    (
                      record { a = 82; b = 67; power = 17; pair = refl; named = refl; bit = refl },
                      (
                        record { a = 87; b = 68; power = 18; pair = refl; named = refl; bit = refl },
                        (
                          record { a = 87; b = 79; power = 19; pair = refl; named = refl; bit = refl },
                          (
                            record { a = 71; b = 65; power = 28; pair = refl; named = refl; bit = refl },
                            (
                              record { a = 71; b = 88; power = 29; pair = refl; named = refl; bit = refl },
                              (
                                record { a = 71; b = 87; power = 30; pair = refl; named = refl; bit = refl },
                                (
                                  record { a = 71; b = 82; power = 31; pair = refl; named = refl; bit = refl },
                                  tt,
                                ),
                              ),
                            ),
                          ),
                        ),
                      ),
                    ),
                  ),
                ),
              ),
            ),
          ),
        ),
      ),
    ),
  ),
)

all_flags : bits_of ace_flags ≡ 0xDF
unfolding bits_of
all_flags = refl

all_of_rights : bits_of access_rights ≡ all_rights
unfolding bits_of
all_of_rights = refl

-- the letters of flags are read as these
pub flags_back : (bits place : ℕ) (rest : List ℕ) → has_bits 0xDF bits ≡ true → front_bit ace_flags rest ≡ None
    → bits_from ace_flags 0 place (letters_text ace_flags bits ++ rest) ≡ (bits, place + length (letters_text ace_flags bits))
flags_back bits place rest has none =
    letters_back ace_flags ace_flags flags_are bits 0 place rest none
    ∙ ap (λ n. (n, place + length (letters_text ace_flags bits))) (ap (λ n. bit_or 0 (bit_and bits n)) all_flags ∙ all_of 0xDF bits has)

pub rights_back : (mask place : ℕ) (rest : List ℕ) → has_bits all_rights mask ≡ true → front_bit access_rights rest ≡ None
    → bits_from access_rights 0 place (letters_text access_rights mask ++ rest) ≡ (mask, place + length (letters_text access_rights mask))
rights_back mask place rest has none =
    letters_back access_rights access_rights rights_are mask 0 place rest none
    ∙ ap (λ n. (n, place + length (letters_text access_rights mask)))
    (ap (λ n. bit_or 0 (bit_and mask n)) all_of_rights ∙ all_of all_rights mask has)

-- the bit of the letters in front is added
pub bits_more : (table : List Letters) (bits place bit : ℕ) (l : List ℕ) → front_bit table l ≡ Some bit
    → bits_from table bits place l ≡ bits_from table (bit_or bits bit) (place + 2) (drop 2 l)
bits_more table bits place bit [] e = absurd cc
bits_more table bits place bit (a ∷ []) e = absurd cc
bits_more table bits place bit (a ∷ b ∷ rest) e = goes_on table bits place a b bit rest e

-- the bits of a table are below a power of two
abbrev pub are_below : ℕ → List Letters → Bool
are_below power table = list_all (λ (it : Letters). nat_lt it.bit (2 ^ power)) table

named_small : (power : ℕ) (table : List Letters) → are_below power table ≡ true → (pair : List ℕ) (bit : ℕ)
    → bit_named table pair ≡ Some bit → bit < 2 ^ power
named_small power [] all pair bit e = absurd cc
named_small power (it ∷ table) all pair bit e =
    let two = and_parts (nat_lt it.bit (2 ^ power)) (are_below power table) all in
    elim (cases_Bool (bytes_eq it.pair pair)) [
      | inl is ↦ (let f : Some it.bit ≡ Some bit = rw is at e in
          let same : it.bit ≡ bit = cc in
          rw (sym same) (ltb-true it.bit (2 ^ power) two.0))
      | inr is ↦ named_small power table two.1 pair bit (rw is at e)
    ]

pub small_from : (power : ℕ) (table : List Letters) → are_below power table ≡ true → (bits place : ℕ) (l : List ℕ)
    → bits < 2 ^ power → (bits_from table bits place l).0 < 2 ^ power
unfolding bits_from
small_from power table all bits place [] small = small
small_from power table all bits place (a ∷ []) small = small
small_from power table all bits place (a ∷ b ∷ rest) small = by_bit (bit_named table (a ∷ b ∷ [])) refl
    (λ more lt. small_from power table all more (place + 2) rest lt)
  where
    by_bit : (found : Option ℕ) → bit_named table (a ∷ b ∷ []) ≡ found
        → ((more : ℕ) → more < 2 ^ power → (bits_from table more (place + 2) rest).0 < 2 ^ power)
        → (cond (is_some (bit_named table (a ∷ b ∷ [])))
        (bits_from table (bit_or bits (unwrap_or (bit_named table (a ∷ b ∷ [])) 0)) (place + 2) rest) (bits, place)).0 < 2 ^ power
    by_bit None e others = rw e small
    by_bit (Some bit) e others = rw e
        (others (bit_or bits bit) (or_lt power bits bit small (named_small power table all (a ∷ b ∷ []) bit e)))

pub flags_small : (text : List ℕ) (place : ℕ) → (bits_at ace_flags text place).0 < 2 ^ 8
flags_small text place = small_from 8 ace_flags refl 0 place (drop place text) (omega arith)

pub right_letters_small : (text : List ℕ) (place : ℕ) → (bits_at access_rights text place).0 < 2 ^ 32
right_letters_small text place = small_from 32 access_rights refl 0 place (drop place text) (omega arith)
