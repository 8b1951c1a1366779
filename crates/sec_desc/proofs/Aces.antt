-- Entries are read exactly where their bytes stand.
use Rattle.std.proofs.Common.{◌≡◌, ℕ, zero, suc, ◌+◌, ◌-◌, ◌^◌, ◌<◌, ◌≤◌, Bool, true, false, List, [], ◌∷◌, ◌++◌, length, take, drop, refl}
use Rattle.std.proofs.Common.{sym, ap, subst, ◌∙◌, append_assoc, length-append, arith}
use Rattle.std.specs.Prelude.{◌==◌, ◌&&◌, nat_le, slice_index}
use Rattle.std.proofs.lemmas.Bool.{and_parts, and_from, leb-true, le-leb}
use Rattle.std.proofs.lemmas.List.{take-append-drop, get_or-drop, length-drop, length-take, length-take-le}
use Rattle.std.proofs.lemmas.Nat.{from_le_bytes-to_le_bytes_2, from_le_bytes-to_le_bytes_4}
use Rattle.std.proofs.Math.Seq.{take-add, take-append-add}
use Rattle.sec_desc.specs.declared.value.Ace.{Ace}
use Rattle.sec_desc.specs.declared.value.Sid.{Sid}
use Rattle.sec_desc.specs.Numbers.{bytes_16, bytes_32, number_16, number_32}
use Rattle.sec_desc.specs.Layout.{ace_of, ace_size, is_ace, is_sid, sid_of, sid_size}
use Rattle.sec_desc.specs.Writing.{IsAceValue, IsShort, ace_front, ace_type, sid_bytes}
use Rattle.sec_desc.specs.Described.{IsAce, IsSid}
use Rattle.sec_desc.proofs.Bytes.{IsBytes, numbers_length, bytes_drop, read_16, read_32, small_16, small_32}
use Rattle.sec_desc.proofs.Identities.{SidAgain, length_sid, sid_again, sid_read}
use Rattle.sec_desc.proofs.Tests.{four_parts, from_four}

-- what the test says
pub record AceTest (bytes : List ℕ) : Type 0 where
  pub long : 8 ≤ length bytes
  pub type : slice_index bytes 0 ≤ 1
  pub sid : is_sid (drop 8 bytes) ≡ true
  pub room : 8 + sid_size (slice_index bytes 9) ≤ ace_size bytes
  pub whole : ace_size bytes ≤ length bytes

pub ace_test : (bytes : List ℕ) → is_ace bytes ≡ true → AceTest bytes
ace_test bytes e =
    let a = nat_le 8 (length bytes) in
    let b = nat_le (slice_index bytes 0) 1 in
    let c = is_sid (drop 8 bytes) in
    let d = nat_le (8 + sid_size (slice_index bytes 9)) (ace_size bytes) in
    let last = and_parts (a && b && c && d) (nat_le (ace_size bytes) (length bytes)) e in
    let parts = four_parts a b c d last.0 in
    record {
      long = leb-true 8 (length bytes) parts.0;
      type = leb-true (slice_index bytes 0) 1 parts.1;
      sid = parts.2;
      room = leb-true (8 + sid_size (slice_index bytes 9)) (ace_size bytes) parts.3;
      whole = leb-true (ace_size bytes) (length bytes) last.1;
    }

pub ace_tested : (bytes : List ℕ) → AceTest bytes → is_ace bytes ≡ true
ace_tested bytes t =
    and_from _ _
    (from_four _ _ _ _ (le-leb 8 (length bytes) t.long) (le-leb (slice_index bytes 0) 1 t.type) t.sid
    (le-leb (8 + sid_size (slice_index bytes 9)) (ace_size bytes) t.room))
    (le-leb (ace_size bytes) (length bytes) t.whole)

-- ## One entry

type_is : (first : ℕ) → first ≤ 1 → ace_type (first == 1) ≡ first
type_is zero le = refl
type_is (suc zero) le = refl
type_is (suc (suc n)) le = absurd (omega arith)

-- the eight bytes before the identity
front_is : (first flags : ℕ) (tail : List ℕ) → IsBytes tail → first ≤ 1 → 6 ≤ length tail
    → ace_front (ace_of (first ∷ flags ∷ tail)) (number_16 tail) ≡ first ∷ flags ∷ take 6 tail
unfolding ace_front
front_is first flags tail fits le long =
    let type = type_is first le in
    let size : bytes_16 (number_16 tail) ≡ take 2 tail = read_16 tail fits (omega arith) in
    let mask : bytes_32 (number_32 (drop 2 tail)) ≡ take 4 (drop 2 tail) =
    read_32 (drop 2 tail) (bytes_drop 2 tail fits) (omega (arith, length-drop 2 tail)) in
    let cut : take 6 tail ≡ take 2 tail ++ take 4 (drop 2 tail) = take-add 2 4 tail in
    rw (type, size, mask, cut) refl

count_is : (first flags : ℕ) (tail : List ℕ) → slice_index (drop 6 tail) 1 ≡ slice_index (first ∷ flags ∷ tail) 9
count_is first flags tail = sym (simp get_or-drop)

module _ (first flags : ℕ) (tail : List ℕ) (fits : IsBytes (first ∷ flags ∷ tail)) (is : is_ace (first ∷ flags ∷ tail) ≡ true) where
  abbrev all : List ℕ
  all = first ∷ flags ∷ tail

  abbrev found : Ace
  found = ace_of all

  abbrev size : ℕ
  size = ace_size all

  tail_fits : IsBytes tail
  tail_fits = bytes_drop 2 all fits

  test : AceTest all
  test = ace_test all is

  sid_is : IsSid (drop 6 tail) found.sid
  sid_is = sid_read (drop 6 tail) (bytes_drop 6 tail tail_fits) test.sid

  abbrev front : List ℕ
  front = ace_front found size ++ sid_bytes found.sid

  front_size : length front ≡ 8 + length (sid_bytes found.sid)
  front_size = omega (
    arith,
    length-append (ace_front found size) (sid_bytes found.sid),
    ap length (front_is first flags tail tail_fits test.type (omega (arith, test.long))),
    length-take 6 tail,
    test.long,
  )

  all_is : all ≡ front ++ sid_is.bytes_are.rest
  all_is =
      let lead = front_is first flags tail tail_fits test.type (omega (arith, test.long)) in
      let whole : first ∷ flags ∷ take 6 tail ++ drop 6 tail ≡ all = ap (λ (l : List ℕ). first ∷ flags ∷ l) (take-append-drop 6 tail) in
      sym whole ∙ ap (λ (l : List ℕ). l ++ drop 6 tail) (sym lead) ∙ ap (λ (l : List ℕ). ace_front found size ++ l) sid_is.bytes_are.parts
      ∙ sym (append_assoc (ace_front found size) (sid_bytes found.sid) sid_is.bytes_are.rest)

  sid_size_is : length (sid_bytes found.sid) ≡ sid_size (slice_index all 9)
  sid_size_is = length_sid found.sid sid_is.value.authority
      ∙ ap sid_size (numbers_length (slice_index (drop 6 tail) 1) (drop 8 (drop 6 tail)) ∙ count_is first flags tail)

  abbrev more : ℕ
  more = size - length front

  entry_is : take size all ≡ front ++ take more sid_is.bytes_are.rest
  entry_is =
      let whole : size ≡ length front + more = omega (arith, test.room, front_size, sid_size_is) in
      ap (λ n. take n all) whole ∙ ap (λ (l : List ℕ). take (length front + more) l) all_is
      ∙ take-append-add front sid_is.bytes_are.rest more

  all_found : IsAce (take size all) found
  all_found =
      let long : length (take size all) ≡ size = length-take-le size all test.whole in
      record {
        slack = take more sid_is.bytes_are.rest;
        parts = entry_is ∙ ap (λ n. (ace_front found n ++ sid_bytes found.sid) ++ take more sid_is.bytes_are.rest) (sym long);
        size = omega (arith, long, small_16 tail tail_fits);
        value = record { flags = omega (arith, fits 1); mask = small_32 (drop 2 tail) (bytes_drop 2 tail tail_fits); sid = sid_is.value };
        short = sid_is.short;
      }

pub ace_read : (bytes : List ℕ) → IsBytes bytes → is_ace bytes ≡ true → IsAce (take (ace_size bytes) bytes) (ace_of bytes)
ace_read [] fits e = absurd cc
ace_read (first ∷ []) fits e = absurd cc
ace_read (first ∷ flags ∷ tail) fits e = all_found first flags tail fits e

-- an entry that stands there is read
pub record AceAgain (bytes entry : List ℕ) (ace : Ace) : Type 0 where
  pub is : is_ace bytes ≡ true
  pub value : ace_of bytes ≡ ace
  pub size : ace_size bytes ≡ length entry

ace_made : Bool → ℕ → ℕ → Sid → Ace
ace_made deny flags mask sid = record { deny = deny; flags = flags; mask = mask; sid = sid }

type_again : (deny : Bool) → (ace_type deny == 1) ≡ deny
type_again true = refl
type_again false = refl

type_small : (deny : Bool) → ace_type deny ≤ 1
type_small true = omega arith
type_small false = omega arith

module _ (ace : Ace) (n : ℕ) (y : List ℕ) (small : n < 2 ^ 16) (mask : ace.mask < 2 ^ 32) where
  size_again : ace_size (ace_front ace n ++ y) ≡ n
  unfolding ace_front bytes_16 bytes_32 number_16
  size_again = from_le_bytes-to_le_bytes_2 n small

  mask_again : number_32 (drop 4 (ace_front ace n ++ y)) ≡ ace.mask
  unfolding ace_front bytes_16 bytes_32 number_32
  mask_again = from_le_bytes-to_le_bytes_4 ace.mask mask

  drop_again : drop 8 (ace_front ace n ++ y) ≡ y
  unfolding ace_front bytes_16 bytes_32
  drop_again = refl

  length_again : length (ace_front ace n ++ y) ≡ 8 + length y
  unfolding ace_front bytes_16 bytes_32
  length_again = omega arith

  type_there : slice_index (ace_front ace n ++ y) 0 ≡ ace_type ace.deny
  unfolding ace_front
  type_there = refl

  flags_there : slice_index (ace_front ace n ++ y) 1 ≡ ace.flags
  unfolding ace_front
  flags_there = refl

  count_there : slice_index (ace_front ace n ++ y) 9 ≡ slice_index y 1
  unfolding ace_front bytes_16 bytes_32
  count_there = refl

sid_count : (sid : Sid) (rest : List ℕ) → slice_index (sid_bytes sid ++ rest) 1 ≡ length sid.parts
unfolding sid_bytes
sid_count sid rest = refl

module _ (ace : Ace) (n : ℕ) (slack rest : List ℕ) (small : n < 2 ^ 16) (value : IsAceValue ace) (short : IsShort ace.sid)
    (size : n ≡ 8 + length (sid_bytes ace.sid) + length slack) where
  abbrev y : List ℕ
  y = sid_bytes ace.sid ++ (slack ++ rest)

  abbrev bytes : List ℕ
  bytes = ace_front ace n ++ y

  sid_there : SidAgain y ace.sid
  sid_there = sid_again y ace.sid (record { bytes_are = record { rest = slack ++ rest; parts = refl }; value = value.sid; short = short })

  sid_length : length (sid_bytes ace.sid) ≡ sid_size (length ace.sid.parts)
  sid_length = length_sid ace.sid value.sid.authority

  y_length : length y ≡ length (sid_bytes ace.sid) + (length slack + length rest)
  y_length = omega (arith, length-append (sid_bytes ace.sid) (slack ++ rest), length-append slack rest)

  tested : AceTest bytes
  tested = record {
    long = omega (arith, length_again ace n y small value.mask);
    type = omega (arith, type_there ace n y small value.mask, type_small ace.deny);
    sid = ap is_sid (drop_again ace n y small value.mask) ∙ sid_there.is;
    room = omega (
      arith,
      size_again ace n y small value.mask,
      count_there ace n y small value.mask,
      sid_count ace.sid (slack ++ rest),
      sid_length,
      size,
    );
    whole = omega (arith, size_again ace n y small value.mask, length_again ace n y small value.mask, y_length, size);
  }

  value_is : ace_of bytes ≡ ace
  unfolding ace_made
  value_is =
      let deny : (slice_index bytes 0 == 1) ≡ ace.deny = ap (λ t. t == 1) (type_there ace n y small value.mask) ∙ type_again ace.deny in
      let sid : sid_of (drop 8 bytes) ≡ ace.sid = ap sid_of (drop_again ace n y small value.mask) ∙ sid_there.value in
      ap (λ d. ace_made d (slice_index bytes 1) (number_32 (drop 4 bytes)) (sid_of (drop 8 bytes))) deny
      ∙ ap (λ f. ace_made ace.deny f (number_32 (drop 4 bytes)) (sid_of (drop 8 bytes))) (flags_there ace n y small value.mask)
      ∙ ap (λ m. ace_made ace.deny ace.flags m (sid_of (drop 8 bytes))) (mask_again ace n y small value.mask)
      ∙ ap (ace_made ace.deny ace.flags ace.mask) sid

pub front_length : (ace : Ace) (n : ℕ) → length (ace_front ace n) ≡ 8
unfolding ace_front bytes_16 bytes_32
front_length ace n = refl

pub ace_again : (bytes entry rest : List ℕ) (ace : Ace) → bytes ≡ entry ++ rest → IsAce entry ace → AceAgain bytes entry ace
ace_again bytes entry rest ace e h =
    let n = length entry in
    let front = ace_front ace n in
    let sid = sid_bytes ace.sid in
    let whole : bytes ≡ front ++ (sid ++ (h.slack ++ rest)) =
    e ∙ ap (λ (l : List ℕ). l ++ rest) h.parts ∙ append_assoc (front ++ sid) h.slack rest ∙ append_assoc front sid (h.slack ++ rest) in
    let size : n ≡ 8 + length sid + length h.slack =
    omega (arith, ap length h.parts, length-append (front ++ sid) h.slack, length-append front sid, front_length ace n) in
    subst (λ (l : List ℕ). AceAgain l entry ace) (sym whole) (record {
      is = ace_tested (front ++ (sid ++ (h.slack ++ rest))) (tested ace n h.slack rest h.size h.value h.short size);
      value = value_is ace n h.slack rest h.size h.value h.short size;
      size = size_again ace n (sid ++ (h.slack ++ rest)) h.size h.value.mask;
    })
