-- Units of two bytes, and texts.
use Rattle.std.proofs.Common.{◌≡◌, ◌≢◌, ℕ, zero, suc, ◌*◌, ◌^◌, ◌<◌, ◌≤◌, false, ltb, ◌==◌, ◌||◌, List, [], ◌∷◌, ◌++◌, length, drop, Ok}
use Rattle.std.proofs.Common.{refl, sym, ap, subst, ◌∙◌, arith}
use Rattle.std.specs.Int.{w16, to_le_bytes}
use Rattle.std.specs.List.{flat_map, list_any, AllByRecursion}
use Rattle.std.proofs.lemmas.Bool.{ltb-false, le-ltb, or_parts, or_from, eqb-false, ne_eqb}
use Rattle.std.proofs.lemmas.List.{length-append}
use Rattle.std.proofs.lemmas.List.Concat.{flat_map-cons}
use Rattle.std.proofs.lemmas.List.Elements.{All-from_recursion, recursion_from_All}
use Rattle.std.proofs.lemmas.Nat.{le_bytes_2, from_le_bytes-to_le_bytes_2}
use Rattle.service_record.specs.Spelling.{number, text, FitsNumber, FitsText, IsUnit}
use Rattle.ndr_body.specs.Units.{half, le_units}
use Rattle.service_record.specs.Reading.{take_text}
use Rattle.service_record.proofs.Fields.{IsBytes, IsBytes-drop, guard_ok, Takes, Takes-then, IsField, step, a_number}

abbrev spell_units : List ℕ → List ℕ
spell_units = flat_map (to_le_bytes w16)

abbrev IsLow : ℕ → Type 0
IsLow u = u < 2 ^ 16

pair_fits : (a b : ℕ) (bytes : List ℕ) → IsBytes (a ∷ b ∷ bytes) → IsBytes (a ∷ b ∷ [])
pair_fits a b bytes fits zero = fits 0
pair_fits a b bytes fits (suc zero) = fits 1
pair_fits a b bytes fits (suc (suc i)) = omega arith

-- units that were read
record UnitsTaken (n : ℕ) (bytes : List ℕ) : Type 0 where
  parts : bytes ≡ spell_units (le_units n bytes) ++ drop (2 * n) bytes
  len : length (le_units n bytes) ≡ n
  below : AllByRecursion IsLow (le_units n bytes)

half_spelled : (a b : ℕ) (bytes : List ℕ) → IsBytes (a ∷ b ∷ bytes) → to_le_bytes w16 (half (a ∷ b ∷ bytes)) ≡ a ∷ b ∷ []
unfolding half
half_spelled a b bytes fits = le_bytes_2 (a ∷ b ∷ []) _ refl (pair_fits a b bytes fits) refl

half_low : (a b : ℕ) (bytes : List ℕ) → IsBytes (a ∷ b ∷ bytes) → half (a ∷ b ∷ bytes) < 2 ^ 16
unfolding half
half_low a b bytes fits = omega (arith, fits 0, fits 1)

units_taken : (n : ℕ) (bytes : List ℕ) → IsBytes bytes → 2 * n ≤ length bytes → UnitsTaken n bytes
unfolding le_units
units_taken zero bytes fits le = record { parts = refl; len = refl; below = tt }
units_taken (suc n) [] fits le = absurd (omega arith)
units_taken (suc n) (a ∷ []) fits le = absurd (omega arith)
units_taken (suc n) (a ∷ b ∷ bytes) fits le =
    let rest = units_taken n bytes (λ i. fits (suc (suc i))) (omega arith) in
    let u = half (a ∷ b ∷ bytes) in
    let e : 2 * suc n ≡ suc (suc (2 * n)) = omega arith in
    let left : drop (2 * suc n) (a ∷ b ∷ bytes) ≡ drop (2 * n) bytes = ap (λ (k : ℕ). drop k (a ∷ b ∷ bytes)) e in
    let front : spell_units (u ∷ le_units n bytes) ≡ a ∷ b ∷ spell_units (le_units n bytes) =
    flat_map-cons (to_le_bytes w16) u (le_units n bytes) ∙ ap (λ (t : List ℕ). t ++ spell_units (le_units n bytes))
    (half_spelled a b bytes fits) in
    record {
      parts = ap (λ (t : List ℕ). a ∷ b ∷ t) rest.parts ∙ sym (ap (λ (t : List ℕ). t ++ drop (2 * suc n) (a ∷ b ∷ bytes)) front
          ∙ ap (λ (t : List ℕ). a ∷ b ∷ (spell_units (le_units n bytes) ++ t)) left);
      len = ap suc rest.len;
      below = (half_low a b bytes fits, rest.below);
    }

-- units that are read again
record UnitsAgain (us rest : List ℕ) : Type 0 where
  units : le_units (length us) (spell_units us ++ rest) ≡ us
  left : drop (2 * length us) (spell_units us ++ rest) ≡ rest
  len : length (spell_units us) ≡ 2 * length us

half_again : (u : ℕ) (bytes : List ℕ) → u < 2 ^ 16 → half (to_le_bytes w16 u ++ bytes) ≡ u
unfolding half
half_again u bytes lt = from_le_bytes-to_le_bytes_2 u lt

units_again : (us rest : List ℕ) → AllByRecursion IsUnit us → UnitsAgain us rest
unfolding le_units
units_again [] rest fits = record { units = refl; left = refl; len = refl }
units_again (u ∷ us) rest fits =
    let others = units_again us rest fits.1 in
    let spelled : spell_units (u ∷ us) ≡ to_le_bytes w16 u ++ spell_units us = flat_map-cons (to_le_bytes w16) u us in
    let bytes : spell_units (u ∷ us) ++ rest ≡ to_le_bytes w16 u ++ (spell_units us ++ rest) = ap (λ (t : List ℕ). t ++ rest) spelled in
    let e : 2 * suc (length us) ≡ suc (suc (2 * length us)) = omega arith in
    record {
      units = ap (λ (t : List ℕ). le_units (suc (length us)) t) bytes ∙ ap (λ (v : ℕ). v ∷ le_units (length us) (spell_units us ++ rest))
          (half_again u (spell_units us ++ rest) fits.0.1) ∙ ap (λ (t : List ℕ). u ∷ t) others.units;
      left = ap (λ (t : List ℕ). drop (2 * suc (length us)) t) bytes ∙ ap
          (λ (k : ℕ). drop k (to_le_bytes w16 u ++ (spell_units us ++ rest))) e ∙ others.left;
      len = ap length spelled ∙ omega (arith, others.len);
    }

-- none of them is 0
units_fit : (us : List ℕ) → list_any (λ u. u == 0) us ≡ false → AllByRecursion IsLow us → AllByRecursion IsUnit us
units_fit [] none low = tt
units_fit (u ∷ us) none low =
    let tests = or_parts (u == 0) (list_any (λ v. v == 0) us) none in
    let ne : u ≢ 0 = eqb-false u 0 tests.0 in
    ((omega arith, low.0), units_fit us tests.1 low.1)

units_none : (us : List ℕ) → AllByRecursion IsUnit us → list_any (λ u. u == 0) us ≡ false
units_none [] fits = refl
units_none (u ∷ us) fits =
    let more : 0 < u = fits.0.0 in
    or_from (u == 0) (list_any (λ v. v == 0) us) (ne_eqb u 0 (omega arith)) (units_none us fits.1)

-- a text of a count and units
text_made : (bytes : List ℕ) (n : ℕ) (rest : List ℕ) → Takes bytes (number n) rest → FitsNumber n → 2 * n ≤ length rest
    → list_any (λ u. u == 0) (le_units n rest) ≡ false
    → Takes bytes (text (le_units n rest)) (drop (2 * n) rest) × FitsText (le_units n rest)
text_made bytes n rest count small long none =
    let us = le_units n rest in
    let taken = units_taken n rest count.rest_fits long in
    let second : Takes rest (spell_units us) (drop (2 * n) rest) = record {
      parts = taken.parts;
      rest_fits = IsBytes-drop (2 * n) rest count.rest_fits;
    } in
    let both = Takes-then bytes (number n) rest (spell_units us) (drop (2 * n) rest) count second in
    let whole : Takes bytes (text us) (drop (2 * n) rest) = subst (λ (k : ℕ). Takes bytes (number k ++ spell_units us) (drop (2 * n) rest))
    (sym taken.len) both in
    let len : FitsNumber (length us) = omega (arith, taken.len, small) in
    (whole, (len, All-from_recursion IsUnit us (units_fit us none taken.below)))

text_takes : (bytes : List ℕ) (x : List ℕ × List ℕ) → IsBytes bytes → take_text bytes ≡ Ok x → Takes bytes (text x.0) x.1 × FitsText x.0
unfolding take_text
text_takes bytes x fits e = step a_number _ bytes x fits e (λ n rest count small next.
    let us = le_units n rest in
    let g = guard_ok (ltb (length rest) (2 * n) || list_any (λ u. u == 0) us) (length bytes) (us, drop (2 * n) rest) x next in
    let tests = or_parts (ltb (length rest) (2 * n)) (list_any (λ u. u == 0) us) g.0 in
    subst (λ (p : List ℕ × List ℕ). Takes bytes (text p.0) p.1 × FitsText p.0) g.1
    (text_made bytes n rest count small (ltb-false _ _ tests.0) tests.1))

text_again : (us rest : List ℕ) → FitsText us → take_text (text us ++ rest) ≡ Ok (us, rest)
unfolding take_text
text_again us rest fits =
    let units = recursion_from_All IsUnit us fits.1 in
    let again = units_again us rest units in
    let body = spell_units us ++ rest in
    let long : ltb (length body) (2 * length us) ≡ false = le-ltb _ _ (omega (arith, length-append (spell_units us) rest, again.len)) in
    let count = a_number.again (length us) body fits.0 in
    rw (count, long, again.units, units_none us units, again.left) refl

pub a_text : IsField (List ℕ) take_text text FitsText
a_text = record { takes = text_takes; again = text_again }
