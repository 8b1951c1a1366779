-- The bytes of a body of numbers, or of a handle and numbers: 4 divides each place in it, so it has no padding.
use Rattle.std.proofs.Common.{◌≡◌, ℕ, ◌+◌, ◌*◌, ◌-◌, List, [], ◌∷◌, ◌++◌, length, map, refl, sym, ap, ◌∙◌, append_assoc, length-append}
use Rattle.std.proofs.Common.{arith}
use Rattle.std.specs.Int.{w32, w64, to_le_bytes}
use Rattle.std.specs.List.{flat_map}
use Rattle.std.proofs.lemmas.List.{append-nil}
use Rattle.ndr_body.specs.Reading.{aligned}
use Rattle.ndr_body.specs.Writing.{Draft, blank, number_bytes, handle_bytes, padding_at, with_bytes, with_item, put_number, put_handle}
use Rattle.ndr_body.proofs.Lengths.{length_number_bytes, length_handle_bytes}
use Rattle.scm_shapes.specs.declared.item.Value.TheVariants as value
use Rattle.scm_shapes.specs.Shapes.{put_value, put_values, body_bytes}

-- an item at a place that 4 divides
unpadded : (item : List ℕ) (d : Draft) → aligned (length d.bytes) ≡ length d.bytes → with_item item d ≡ with_bytes item d
unpadded item d h =
    let gap : aligned (length d.bytes) - length d.bytes ≡ 0 = omega (arith, h) in
    let e : d.bytes ++ padding_at (length d.bytes) ≡ d.bytes = rw gap (append-nil d.bytes) in
    ap (λ (bytes : List ℕ). record d { bytes = bytes ++ item }) e

numbers_put : (ns : List ℕ) (d : Draft) → aligned (length d.bytes) ≡ length d.bytes → (put_values (map value.Number ns) d).bytes ≡ d.bytes
    ++ flat_map number_bytes ns
unfolding put_values put_value put_number
numbers_put [] d h = sym (append-nil d.bytes)
numbers_put (n ∷ ns) d h =
    let longer : aligned (length (d.bytes ++ number_bytes n)) ≡ length (d.bytes ++ number_bytes n) =
    omega (arith, h, length-append d.bytes (number_bytes n), length_number_bytes n) in
    ap (λ (e : Draft). (put_values (map value.Number ns) e).bytes) (unpadded (number_bytes n) d h)
    ∙ numbers_put ns (with_bytes (number_bytes n) d) longer
    ∙ append_assoc d.bytes (number_bytes n) (flat_map number_bytes ns)

pub numbers_at_once : (ns : List ℕ) → body_bytes (map value.Number ns) ≡ flat_map number_bytes ns
unfolding body_bytes
numbers_at_once ns = numbers_put ns blank refl

pub length_numbers : (ns : List ℕ) → length (flat_map number_bytes ns) ≡ 4 * length ns
length_numbers [] = refl
length_numbers (n ∷ ns) = omega (arith, length-append (number_bytes n) (flat_map number_bytes ns), length_number_bytes n, length_numbers ns)

handle_first : (handle : ℕ) → put_handle handle blank ≡ with_bytes (handle_bytes handle) blank
unfolding put_handle
handle_first handle = unpadded (handle_bytes handle) blank refl

pub handle_at_once : (handle : ℕ) (ns : List ℕ) → body_bytes (value.Handle handle ∷ map value.Number ns) ≡ handle_bytes handle
    ++ flat_map number_bytes ns
unfolding body_bytes put_values put_value
handle_at_once handle ns =
    let even : aligned (length (handle_bytes handle)) ≡ length (handle_bytes handle) = omega (arith, length_handle_bytes handle) in
    ap (λ (d : Draft). (put_values (map value.Number ns) d).bytes) (handle_first handle)
    ∙ numbers_put ns (with_bytes (handle_bytes handle) blank) even

pub length_handle : (handle : ℕ) (ns : List ℕ) → length (handle_bytes handle ++ flat_map number_bytes ns) ≡ 20 + 4 * length ns
length_handle handle ns = omega (
  arith,
  length-append (handle_bytes handle) (flat_map number_bytes ns),
  length_handle_bytes handle,
  length_numbers ns,
)

pub ruleset numbers_written = (numbers_at_once, length_numbers)

pub ruleset handle_written = (handle_at_once, length_handle)

-- a handle in three parts: attributes, its number and zeros
pub handle_in_parts : (front : List ℕ) (handle : ℕ) → ((front ++ 0 ∷ 0 ∷ 0 ∷ 0 ∷ []) ++ to_le_bytes w64 handle)
    ++ 0 ∷ 0 ∷ 0 ∷ 0 ∷ 0 ∷ 0 ∷ 0 ∷ 0 ∷ [] ≡ front ++ handle_bytes handle
unfolding handle_bytes number_bytes
handle_in_parts front handle =
    append_assoc (front ++ to_le_bytes w32 0) (to_le_bytes w64 handle) (to_le_bytes w64 0)
    ∙ append_assoc front (to_le_bytes w32 0) (to_le_bytes w64 handle ++ to_le_bytes w64 0)
