-- An identity is read exactly where its bytes stand.
use Rattle.std.proofs.Common.{◌≡◌, ℕ, ◌+◌, ◌*◌, ◌^◌, ◌<◌, ◌≤◌, true, List, [], ◌∷◌, ◌++◌, length, take, drop, refl, sym, ap, subst, ◌∙◌}
use Rattle.std.proofs.Common.{append_assoc, length-append, arith}
use Rattle.std.specs.Prelude.{◌==◌, ◌&&◌, nat_le, slice_index}
use Rattle.std.specs.List.{flat_map}
use Rattle.std.proofs.lemmas.Bool.{leb-true, le-leb, eqb-true, eq-eqb}
use Rattle.std.proofs.lemmas.List.{drop_at, take_at, take-append-drop, length-drop, length-take}
use Rattle.std.proofs.lemmas.List.Elements.{All-from_recursion, recursion_from_All}
use Rattle.std.proofs.Math.Seq.{take-add}
use Rattle.sec_desc.specs.declared.value.Sid.{Sid}
use Rattle.sec_desc.specs.Numbers.{bytes_32, numbers_32}
use Rattle.sec_desc.specs.Layout.{is_sid, sid_of, sid_size}
use Rattle.sec_desc.specs.Writing.{sid_bytes}
use Rattle.sec_desc.specs.Described.{IsSid}
use Rattle.sec_desc.proofs.Bytes.{IsBytes, bytes_drop, length_numbers, numbers_again, numbers_bytes, numbers_length, numbers_small}
use Rattle.sec_desc.proofs.Tests.{four_parts, from_four}

-- what the test says
pub record SidTest (bytes : List ℕ) : Type 0 where
  pub long : 8 ≤ length bytes
  pub revision : slice_index bytes 0 ≡ 1
  pub count : slice_index bytes 1 ≤ 15
  pub whole : 8 + 4 * slice_index bytes 1 ≤ length bytes

pub sid_test : (bytes : List ℕ) → is_sid bytes ≡ true → SidTest bytes
sid_test bytes e =
    let parts =
    four_parts (nat_le 8 (length bytes)) (slice_index bytes 0 == 1) (nat_le (slice_index bytes 1) 15)
    (nat_le (8 + 4 * slice_index bytes 1) (length bytes)) e in
    record {
      long = leb-true 8 (length bytes) parts.0;
      revision = eqb-true (slice_index bytes 0) 1 parts.1;
      count = leb-true (slice_index bytes 1) 15 parts.2;
      whole = leb-true (8 + 4 * slice_index bytes 1) (length bytes) parts.3;
    }

pub sid_tested : (bytes : List ℕ) → SidTest bytes → is_sid bytes ≡ true
sid_tested bytes t =
    from_four _ _ _ _ (le-leb 8 (length bytes) t.long) (eq-eqb (slice_index bytes 0) 1 t.revision)
    (le-leb (slice_index bytes 1) 15 t.count) (le-leb (8 + 4 * slice_index bytes 1) (length bytes) t.whole)

-- the bytes of the identity that is read
sid_front : (first count : ℕ) (tail : List ℕ) → IsBytes tail → first ≡ 1 → 6 + 4 * count ≤ length tail
    → sid_bytes (sid_of (first ∷ count ∷ tail)) ≡ first ∷ count ∷ take (6 + 4 * count) tail
unfolding sid_bytes
sid_front first count tail fits one le =
    let counted : length (numbers_32 count (drop 6 tail)) ≡ count = numbers_length count (drop 6 tail) in
    let parts : flat_map bytes_32 (numbers_32 count (drop 6 tail)) ≡ take (4 * count) (drop 6 tail) =
    numbers_bytes count (drop 6 tail) (bytes_drop 6 tail fits) (omega (arith, length-drop 6 tail)) in
    let cut : take (6 + 4 * count) tail ≡ take 6 tail ++ take (4 * count) (drop 6 tail) = take-add 6 (4 * count) tail in
    rw (counted, parts, cut, one) refl

pub sid_read : (bytes : List ℕ) → IsBytes bytes → is_sid bytes ≡ true → IsSid bytes (sid_of bytes)
sid_read [] fits e = absurd cc
sid_read (first ∷ []) fits e = absurd cc
sid_read (first ∷ count ∷ tail) fits e =
    let t = sid_test (first ∷ count ∷ tail) e in
    let tail_fits : IsBytes tail = bytes_drop 2 (first ∷ count ∷ tail) fits in
    let le : 6 + 4 * count ≤ length tail = omega (arith, t.whole) in
    let front = sid_front first count tail tail_fits t.revision le in
    record {
      bytes_are = record {
        rest = drop (6 + 4 * count) tail;
        parts = sym (ap (λ (l : List ℕ). l ++ drop (6 + 4 * count) tail) front
            ∙ ap (λ (l : List ℕ). first ∷ count ∷ l) (take-append-drop (6 + 4 * count) tail));
      };
      value = record {
        authority = omega (arith, length-take 6 tail, t.whole);
        parts = All-from_recursion (λ part. part < 2 ^ 32) (numbers_32 count (drop 6 tail))
            (numbers_small count (drop 6 tail) (bytes_drop 6 tail tail_fits));
      };
      short = omega (arith, numbers_length count (drop 6 tail), t.count);
    }

-- an identity that stands there is read
pub record SidAgain (bytes : List ℕ) (sid : Sid) : Type 0 where
  pub is : is_sid bytes ≡ true
  pub value : sid_of bytes ≡ sid

pub length_sid : (sid : Sid) → length sid.authority ≡ 6 → length (sid_bytes sid) ≡ sid_size (length sid.parts)
unfolding sid_bytes
length_sid sid six = omega (arith, six, length_numbers sid.parts, length-append sid.authority (flat_map bytes_32 sid.parts))

sid_made : (authority parts : List ℕ) → Sid
sid_made authority parts = record { authority = authority; parts = parts }

again_of : (sid : Sid) (rest : List ℕ) → IsSid (sid_bytes sid ++ rest) sid → SidAgain (sid_bytes sid ++ rest) sid
unfolding sid_bytes sid_made
again_of sid rest h =
    let six = h.value.authority in
    let flat = flat_map bytes_32 sid.parts in
    let bytes = sid_bytes sid ++ rest in
    let assoc : (sid.authority ++ flat) ++ rest ≡ sid.authority ++ (flat ++ rest) = append_assoc sid.authority flat rest in
    let authority : take 6 ((sid.authority ++ flat) ++ rest) ≡ sid.authority =
    ap (take 6) assoc ∙ take_at sid.authority (flat ++ rest) 6 six in
    let behind : drop 6 ((sid.authority ++ flat) ++ rest) ≡ flat ++ rest = ap (drop 6) assoc ∙ drop_at sid.authority (flat ++ rest) 6 six in
    let parts : numbers_32 (length sid.parts) (drop 6 ((sid.authority ++ flat) ++ rest)) ≡ sid.parts =
    ap (numbers_32 (length sid.parts)) behind
    ∙ numbers_again sid.parts rest (recursion_from_All (λ part. part < 2 ^ 32) sid.parts h.value.parts) in
    let size : length ((sid.authority ++ flat) ++ rest) ≡ 6 + 4 * length sid.parts + length rest =
    omega (arith, six, length_numbers sid.parts, length-append sid.authority flat, length-append (sid.authority ++ flat) rest) in
    record {
      is = sid_tested bytes (record { long = omega (arith, size); revision = refl; count = h.short; whole = omega (arith, size) });
      value = ap (λ a. sid_made a (numbers_32 (length sid.parts) (drop 6 ((sid.authority ++ flat) ++ rest)))) authority
          ∙ ap (sid_made sid.authority) parts;
    }

pub sid_again : (bytes : List ℕ) (sid : Sid) → IsSid bytes sid → SidAgain bytes sid
sid_again bytes sid h =
    let e = h.bytes_are.parts in
    subst (λ (l : List ℕ). SidAgain l sid) (sym e) (again_of sid h.bytes_are.rest (subst (λ (l : List ℕ). IsSid l sid) e h))
