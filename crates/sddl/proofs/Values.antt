-- What is read is a value of the types, and its list's size fits.
use Rattle.std.proofs.Common.{◌≡◌, ℕ, zero, suc, ◌+◌, ◌≤◌, ◌<◌, ◌^◌, Bool, true, List, [], ◌∷◌, length, take, drop, Option, Some, None}
use Rattle.std.proofs.Common.{Result, Ok, Err, refl, sym, ap, arith, inl, inr}
use Rattle.std.specs.Prelude.{All, IfOk, IfSome, codes, find, nat_le, nat_lt, option_and_then, ◌&&◌}
use Rattle.std.specs.List.{AllByRecursion, list_all}
use Rattle.std.specs.Str.Parse.{digits_value}
use Rattle.std.proofs.Math.Nat.{pow-le-pow_right}
use Rattle.std.proofs.lemmas.Bool.{and_parts, cases_Bool, leb-true, ltb-true}
use Rattle.std.proofs.lemmas.Int.Digits.{digits_value-lt}
use Rattle.std.proofs.lemmas.List.Elements.{All-from_recursion}
use Rattle.decimal_words.specs.Numbers.{decimal_number, if_below, number_below}
use Rattle.sec_desc.specs.declared.value.Ace.{Ace}
use Rattle.sec_desc.specs.declared.value.Descriptor.{Descriptor}
use Rattle.sec_desc.specs.declared.value.Sid.{Sid}
use Rattle.sec_desc.specs.Writing.{IsAceValue, IsShort, IsSidValue, IsValue, IsWritable, IsWritableAcl, size_of_ace, size_of_aces}
use Rattle.sddl.specs.declared.fault.SddlFault.{SddlFault}
use Rattle.sddl.specs.declared.reading.Head.{Head}
use Rattle.sddl.specs.declared.tables.KnownSid.{KnownSid}
use Rattle.sddl.specs.Reading.{ReadsAs, ace_at, ace_within, aces_from, after_byte, after_bytes, at_end, authority_at, begins, bits_at}
use Rattle.sddl.specs.Reading.{digits_at, fits, has_byte, head_at, hex_at, hex_number, is_digit, kind_at, known_at, list_at, long_at}
use Rattle.sddl.specs.Reading.{number_at, pair_at, part_at, parts_from, rights_at, sddl_of, sid_at, six_bytes_at, within}
use Rattle.sddl.specs.Tables.{ace_flags, has_letters, known_by_letters, known_sids, parts_after}
use Rattle.sddl.proofs.Bits.{flags_small, right_letters_small}
use Rattle.sddl.proofs.Fitting.{bind_ok, ok_same, short_known, short_long}
use Rattle.sddl.proofs.Loops.{all_digits, digits_pass}

-- ## Numbers

some_of_fits : {A : Type 0} (place : ℕ) (o : Option A) (x : A) → fits place o ≡ Ok x → o ≡ Some x
some_of_fits place None x e = absurd cc
some_of_fits place (Some y) x e = ap Some (ok_same y x e)

below_limit : (limit : ℕ) (o : Option ℕ) (n : ℕ) → option_and_then (if_below limit) o ≡ Some n → n < limit
below_limit limit None n e = absurd cc
below_limit limit (Some m) n e = elim (cases_Bool (nat_lt m limit)) [
  | inl is ↦ (let f : Some m ≡ Some n = rw is at e in
      let same : m ≡ n = cc in
      rw (sym same) (ltb-true m limit is))
  | inr is ↦ absurd (let f = rw is at e in cc)
]

number_small : (text : List ℕ) (place : ℕ) (x : ℕ × ℕ) → number_at text place ≡ Ok x → x.0 < 2 ^ 32
unfolding number_at number_below
number_small text place x e =
    let found = number_below (2 ^ 32) (digits_at 10 text place) in
    let n = bind_ok (fits place found) _ x e in
    rw (sym (ok_same _ x n.2)) (below_limit (2 ^ 32) (decimal_number (digits_at 10 text place)) n.0 (some_of_fits place found n.0 n.1))

hex_within : (word : List ℕ) (n : ℕ) → list_all (is_digit 16) word ≡ true → hex_number word ≡ Some n → n < 2 ^ 32
unfolding hex_number
hex_within word n all e = elim (cases_Bool (nat_le 1 (length word) && nat_le (length word) 8)) [
  | inl is ↦ (let f : Some (digits_value 16 word) ≡ Some n = rw is at e in
      let same : digits_value 16 word ≡ n = cc in
      let short = leb-true (length word) 8 (and_parts (nat_le 1 (length word)) (nat_le (length word) 8) is).1 in
      let power : 16 ^ length word ≤ 16 ^ 8 = pow-le-pow_right (omega arith) short in
      omega (arith, same, power, digits_value-lt 16 word (all_digits word all)))
  | inr is ↦ absurd (let f = rw is at e in cc)
]

hex_at_small : (text : List ℕ) (place : ℕ) (x : ℕ × ℕ) → hex_at text place ≡ Ok x → x.0 < 2 ^ 32
unfolding hex_at
hex_at_small text place x e =
    let word = digits_at 16 text place in
    let n = bind_ok (fits place (hex_number word)) _ x e in
    rw (sym (ok_same _ x n.2)) (hex_within word n.0 (digits_pass 16 text place) (some_of_fits place (hex_number word) n.0 n.1))

rights_small : (text : List ℕ) (place : ℕ) (x : ℕ × ℕ) → rights_at text place ≡ Ok x → x.0 < 2 ^ 32
unfolding rights_at
rights_small text place x e = elim (cases_Bool (begins (codes "0x") text place)) [
  | inl is ↦ (let f = rw is at e in
      let begun = bind_ok (after_bytes (codes "0x") text place) _ x f in
      hex_at_small text begun.0 x begun.2)
  | inr is ↦ (let f = rw is at e in rw (sym (ok_same _ x f)) (right_letters_small text place))
]

-- ## Identities

parts_small : (n : ℕ) (text : List ℕ) (place : ℕ) (x : List ℕ × ℕ) → parts_from n text place ≡ Ok x
    → AllByRecursion (λ part. part < 2 ^ 32) x.0
unfolding parts_from
parts_small zero text place x e = elim (cases_Bool (has_byte 45 text place)) [
  | inl is ↦ absurd (let f = rw is at e in cc)
  | inr is ↦ (let f = rw is at e in rw (sym (ok_same ([], place) x f)) tt)
]
parts_small (suc n) text place x e = elim (cases_Bool (has_byte 45 text place)) [
  | inl is ↦ (let f = rw is at e in
      let first = bind_ok (number_at text (place + 1)) _ x f in
      let others = bind_ok (parts_from n text first.0.1) _ x first.2 in
      rw (sym (ok_same _ x others.2))
      (number_small text (place + 1) first.0 first.1, parts_small n text first.0.1 others.0 others.1))
  | inr is ↦ (let f = rw is at e in rw (sym (ok_same ([], place) x f)) tt)
]

six_long : (text : List ℕ) (place : ℕ) (x : List ℕ × ℕ) → six_bytes_at text place ≡ Ok x → length x.0 ≡ 6
unfolding six_bytes_at
six_long text place x e =
    let a = bind_ok (pair_at text place) _ x e in
    let b = bind_ok (pair_at text a.0.1) _ x a.2 in
    let c = bind_ok (pair_at text b.0.1) _ x b.2 in
    let d = bind_ok (pair_at text c.0.1) _ x c.2 in
    let fifth = bind_ok (pair_at text d.0.1) _ x d.2 in
    let last = bind_ok (pair_at text fifth.0.1) _ x fifth.2 in
    rw (sym (ok_same _ x last.2)) refl

authority_long : (text : List ℕ) (place : ℕ) (x : List ℕ × ℕ) → authority_at text place ≡ Ok x → length x.0 ≡ 6
unfolding authority_at
authority_long text place x e = elim (cases_Bool (begins (codes "0x") text place)) [
  | inl is ↦ (let f = rw is at e in
      let begun = bind_ok (after_bytes (codes "0x") text place) _ x f in
      six_long text begun.0 x begun.2)
  | inr is ↦ (let f = rw is at e in
      let n = bind_ok (number_at text place) _ x f in
      rw (sym (ok_same _ x n.2)) refl)
]

long_value : (text : List ℕ) (place : ℕ) (x : Sid × ℕ) → long_at text place ≡ Ok x → IsSidValue x.0
unfolding long_at
long_value text place x e =
    let authority = bind_ok (authority_at text place) _ x e in
    let parts = bind_ok (parts_from 15 text authority.0.1) _ x authority.2 in
    let small = parts_small 15 text authority.0.1 parts.0 parts.1 in
    rw (sym (ok_same _ x parts.2)) (record {
      authority = authority_long text place authority.0 authority.1;
      parts = All-from_recursion (λ part. part < 2 ^ 32) parts.0.0 small;
    })

-- what all rows of a table pass, passes what is found
pub found_passes : {A : Type 0} (p q : A → Bool) (xs : List A) (x : A) → list_all p xs ≡ true → find q xs ≡ Some x → p x ≡ true
found_passes p q [] x all e = absurd cc
found_passes p q (y ∷ ys) x all e =
    let two = and_parts (p y) (list_all p ys) all in
    elim (cases_Bool (q y)) [
      | inl is ↦ (let f : Some y ≡ Some x = rw is at e in
          let same : y ≡ x = cc in
          rw (sym same) two.0)
      | inr is ↦ found_passes p q ys x two.1 (rw is at e)
    ]

abbrev has_small_parts : KnownSid → Bool
has_small_parts it = list_all (λ part. nat_lt part (2 ^ 32)) (it.first ∷ parts_after it.second)

small_parts : (parts : List ℕ) → list_all (λ part. nat_lt part (2 ^ 32)) parts ≡ true → AllByRecursion (λ part. part < 2 ^ 32) parts
small_parts [] all = tt
small_parts (part ∷ parts) all =
    let two = and_parts (nat_lt part (2 ^ 32)) (list_all (λ part. nat_lt part (2 ^ 32)) parts) all in
    (ltb-true part (2 ^ 32) two.0, small_parts parts two.1)

known_value : (text : List ℕ) (place : ℕ) (x : Sid × ℕ) → known_at text place ≡ Ok x → IsSidValue x.0
unfolding known_at
known_value text place x e =
    let pair = take 2 (drop place text) in
    let known = bind_ok (fits place (known_by_letters pair)) _ x e in
    let found = some_of_fits place (known_by_letters pair) known.0 known.1 in
    let small = found_passes has_small_parts (has_letters pair) known_sids known.0 refl found in
    rw (sym (ok_same _ x known.2)) (record {
      authority = refl;
      parts = All-from_recursion (λ part. part < 2 ^ 32) (known.0.first ∷ parts_after known.0.second)
          (small_parts (known.0.first ∷ parts_after known.0.second) small);
    })

pub sid_short : (text : List ℕ) (place : ℕ) (x : Sid × ℕ) → sid_at text place ≡ Ok x → IsShort x.0
unfolding sid_at
sid_short text place x e = elim (cases_Bool (begins (codes "S-1-") text place)) [
  | inl is ↦ (let f = rw is at e in
      let begun = bind_ok (after_bytes (codes "S-1-") text place) _ x f in
      short_long text begun.0 x begun.2)
  | inr is ↦ (let f = rw is at e in short_known text place x f)
]

pub sid_value : (text : List ℕ) (place : ℕ) (x : Sid × ℕ) → sid_at text place ≡ Ok x → IsSidValue x.0
unfolding sid_at
sid_value text place x e = elim (cases_Bool (begins (codes "S-1-") text place)) [
  | inl is ↦ (let f = rw is at e in
      let begun = bind_ok (after_bytes (codes "S-1-") text place) _ x f in
      long_value text begun.0 x begun.2)
  | inr is ↦ (let f = rw is at e in known_value text place x f)
]

-- ## Entries

record IsHeadValue (head : Head) : Type 0 where
  flags : head.flags < 2 ^ 8
  mask : head.mask < 2 ^ 32

head_value : (text : List ℕ) (place : ℕ) (x : Head × ℕ) → head_at text place ≡ Ok x → IsHeadValue x.0
unfolding head_at
head_value text place x e =
    let begun = bind_ok (after_byte 40 text place) _ x e in
    let kind = bind_ok (kind_at text begun.0) _ x begun.2 in
    let told = bind_ok (after_byte 59 text kind.0.1) _ x kind.2 in
    let flagged = bind_ok (after_byte 59 text (bits_at ace_flags text told.0).1) _ x told.2 in
    let rights = bind_ok (rights_at text flagged.0) _ x flagged.2 in
    let end = bind_ok (after_bytes (codes ";;;") text rights.0.1) _ x rights.2 in
    rw (sym (ok_same _ x end.2)) (record {
      flags = flags_small text told.0;
      mask = rights_small text flagged.0 rights.0 rights.1;
    })

record HasForm (ace : Ace) : Type 0 where
  short : IsShort ace.sid
  value : IsAceValue ace

ace_value : (text : List ℕ) (place : ℕ) (x : Ace × ℕ) → ace_at text place ≡ Ok x → HasForm x.0
unfolding ace_at
ace_value text place x e =
    let head = bind_ok (head_at text place) _ x e in
    let sid = bind_ok (sid_at text head.0.1) _ x head.2 in
    let end = bind_ok (after_byte 41 text sid.0.1) _ x sid.2 in
    let is = head_value text place head.0 head.1 in
    rw (sym (ok_same _ x end.2)) (record {
      short = sid_short text head.0.1 sid.0 sid.1;
      value = record { flags = is.flags; mask = is.mask; sid = sid_value text head.0.1 sid.0 sid.1 };
    })

-- what an entry that fits adds stays below the limit
record IsAceWithin (size : ℕ) (ace : Ace) : Type 0 where
  form : HasForm ace
  limit : size + size_of_ace ace < 2 ^ 16

within_limit : (size : ℕ) (text : List ℕ) (place : ℕ) (x : Ace × ℕ) → ace_within size text place ≡ Ok x → IsAceWithin size x.0
unfolding ace_within
within_limit size text place x e =
    let ace = bind_ok (ace_at text place) (within size place) x e in
    elim (cases_Bool (nat_lt (size + size_of_ace ace.0.0) (2 ^ 16))) [
      | inl is ↦ (let f = rw is at ace.2 in
          rw (sym (ok_same ace.0 x f)) (record {
            form = ace_value text place ace.0 ace.1;
            limit = ltb-true (size + size_of_ace ace.0.0) (2 ^ 16) is;
          }))
      | inr is ↦ absurd (let f = rw is at ace.2 in cc)
    ]

record AreRead (size : ℕ) (aces : List Ace) : Type 0 where
  short : AllByRecursion (λ (ace : Ace). IsShort ace.sid) aces
  values : AllByRecursion IsAceValue aces
  limit : size + size_of_aces aces < 2 ^ 16

aces_read : (n size : ℕ) (text : List ℕ) (place : ℕ) (x : List Ace × ℕ) → size < 2 ^ 16 → aces_from n size text place ≡ Ok x
    → AreRead size x.0
unfolding aces_from size_of_aces
aces_read zero size text place x small e = rw (sym (ok_same ([], place) x e)) (record { short = tt; values = tt; limit = omega arith })
aces_read (suc n) size text place x small e = elim (cases_Bool (has_byte 40 text place)) [
  | inl is ↦ (let f = rw is at e in
      let first = bind_ok (ace_within size text place) _ x f in
      let others = bind_ok (aces_from n (size + size_of_ace first.0.0) text first.0.1) _ x first.2 in
      let one = within_limit size text place first.0 first.1 in
      let more = aces_read n (size + size_of_ace first.0.0) text first.0.1 others.0 one.limit others.1 in
      rw (sym (ok_same _ x others.2)) (record {
        short = (one.form.short, more.short);
        values = (one.form.value, more.values);
        limit = omega (arith, more.limit);
      }))
  | inr is ↦ (let f = rw is at e in
      rw (sym (ok_same ([], place) x f)) (record { short = tt; values = tt; limit = omega arith }))
]

list_short : (text : List ℕ) (place : ℕ) (x : List Ace × ℕ) → list_at text place ≡ Ok x → IsWritableAcl x.0
list_short text place x e =
    let are = aces_read 4096 8 text place x (omega arith) e in
    record { short = All-from_recursion (λ (ace : Ace). IsShort ace.sid) x.0 are.short; size = are.limit }

list_values : (text : List ℕ) (place : ℕ) (x : List Ace × ℕ) → list_at text place ≡ Ok x → All IsAceValue x.0
list_values text place x e = All-from_recursion IsAceValue x.0 (aces_read 4096 8 text place x (omega arith) e).values

-- ## All of it

part_is : {A : Type 0} (P : A → Type 0) (letter : ℕ) (item : List ℕ → ℕ → Result (A × ℕ) ℕ) (text : List ℕ)
    → ((place : ℕ) (x : A × ℕ) → item text place ≡ Ok x → P x.0)
    → (place : ℕ) (x : Option A × ℕ) → part_at letter item text place ≡ Ok x → IfSome x.0 P
unfolding part_at
part_is P letter item text is place x e = elim (cases_Bool (has_byte letter text place)) [
  | inl has ↦ (let f = rw has at e in
      let begun = bind_ok (after_bytes (letter ∷ 58 ∷ []) text place) _ x f in
      let found = bind_ok (item text begun.0) _ x begun.2 in
      rw (sym (ok_same _ x found.2)) (is begun.0 found.0 found.1))
  | inr has ↦ (let f = rw has at e in rw (sym (ok_same (None, place) x f)) tt)
]

pub can_be_written : (text : List ℕ) (d : Descriptor) → sddl_of text ≡ Ok d → IsWritable d × IsValue d
unfolding sddl_of
can_be_written text d e =
    let owner = bind_ok (part_at 79 sid_at text 0) _ d e in
    let group = bind_ok (part_at 71 sid_at text owner.0.1) _ d owner.2 in
    let list = bind_ok (part_at 68 list_at text group.0.1) _ d group.2 in
    let end = bind_ok (at_end text list.0.1) _ d list.2 in
    rw (sym (ok_same _ d end.2)) (
      record {
        owner = part_is IsShort 79 sid_at text (sid_short text) 0 owner.0 owner.1;
        group = part_is IsShort 71 sid_at text (sid_short text) owner.0.1 group.0 group.1;
        list = part_is IsWritableAcl 68 list_at text (list_short text) group.0.1 list.0 list.1;
      },
      record {
        owner = part_is IsSidValue 79 sid_at text (sid_value text) 0 owner.0 owner.1;
        group = part_is IsSidValue 71 sid_at text (sid_value text) owner.0.1 group.0 group.1;
        list = part_is (All IsAceValue) 68 list_at text (list_values text) group.0.1 list.0 list.1;
      },
    )

-- what a reader returns
pub told_writable : (text : List ℕ) (result : Result Descriptor SddlFault) → ReadsAs (λ d. d) result (sddl_of text)
    → IfOk result (λ d. IsWritable d × IsValue d)
told_writable text (Ok d) e = can_be_written text d e
told_writable text (Err fault) e = tt
