-- A descriptor is read exactly if it is described.
use Rattle.std.proofs.Common.{◌≡◌, ℕ, zero, suc, ◌+◌, ◌^◌, ◌<◌, ◌≤◌, Bool, true, false, cond, Option, Some, None, List, [], ◌∷◌, ◌++◌}
use Rattle.std.proofs.Common.{length, take, drop, Result, Ok, Err, refl, sym, ap, subst, ◌∙◌, arith}
use Rattle.std.specs.Prelude.{◌==◌, ◌&&◌, nat_le, slice_index}
use Rattle.std.proofs.lemmas.Bool.{leb-true, le-leb, eqb-true, eq-eqb, ne_eqb}
use Rattle.std.proofs.lemmas.List.{take-append-drop, length-drop}
use Rattle.std.proofs.lemmas.Nat.{from_le_bytes-to_le_bytes_2, from_le_bytes-to_le_bytes_4}
use Rattle.std.proofs.Math.Seq.{take-add}
use Rattle.sec_desc.specs.declared.value.Ace.{Ace}
use Rattle.sec_desc.specs.declared.value.Sid.{Sid}
use Rattle.sec_desc.specs.declared.value.Descriptor.{Descriptor}
use Rattle.sec_desc.specs.declared.layout.Header.{Header}
use Rattle.sec_desc.specs.Numbers.{bytes_16, bytes_32, number_16, number_32}
use Rattle.sec_desc.specs.Layout.{control_bits, descriptor_header, is_header, is_sid, list_offset, offset, sid_of}
use Rattle.sec_desc.specs.Reading.{◌>>=◌, acl_at, described, header_in, part_at, parts_of, sid_at}
use Rattle.sec_desc.specs.Writing.{header_bytes}
use Rattle.sec_desc.specs.Described.{BeginsAcl, Describes, IsPart, IsSid}
use Rattle.sec_desc.proofs.Bytes.{IsBytes, bytes_drop, read_16, read_32, small_16, small_32}
use Rattle.sec_desc.proofs.Identities.{sid_again, sid_read}
use Rattle.sec_desc.proofs.Lists.{acl_again, acl_read, bind_ok, ok_is, passed}
use Rattle.sec_desc.proofs.Tests.{four_parts, from_four}
use Rattle.scm_text.specs.Numbers.{has_bits}

-- ## The header

pub record HeaderTest (bytes : List ℕ) : Type 0 where
  pub long : 20 ≤ length bytes
  pub revision : slice_index bytes 0 ≡ 1
  pub none : slice_index bytes 1 ≡ 0
  pub self_relative : has_bits (control_bits bytes) 0x8000 ≡ true

header_test : (bytes : List ℕ) → is_header bytes ≡ true → HeaderTest bytes
header_test bytes e =
    let parts =
    four_parts (nat_le 20 (length bytes)) (slice_index bytes 0 == 1) (slice_index bytes 1 == 0) (has_bits (control_bits bytes) 0x8000) e in
    record {
      long = leb-true 20 (length bytes) parts.0;
      revision = eqb-true (slice_index bytes 0) 1 parts.1;
      none = eqb-true (slice_index bytes 1) 0 parts.2;
      self_relative = parts.3;
    }

header_tested : (bytes : List ℕ) → HeaderTest bytes → is_header bytes ≡ true
header_tested bytes t =
    from_four _ _ _ _ (le-leb 20 (length bytes) t.long) (eq-eqb (slice_index bytes 0) 1 t.revision)
    (eq-eqb (slice_index bytes 1) 0 t.none) t.self_relative

header_parts : (first second : ℕ) (tail : List ℕ) → IsBytes tail → 18 ≤ length tail → first ≡ 1 → second ≡ 0
    → header_bytes (number_16 tail) (number_32 (drop 2 tail)) (number_32 (drop 6 tail)) (number_32 (drop 10 tail))
    (number_32 (drop 14 tail)) ≡ first ∷ second ∷ take 18 tail
unfolding header_bytes
header_parts first second tail fits long one none =
    let a : bytes_16 (number_16 tail) ≡ take 2 tail = read_16 tail fits (omega arith) in
    let b : bytes_32 (number_32 (drop 2 tail)) ≡ take 4 (drop 2 tail) =
    read_32 (drop 2 tail) (bytes_drop 2 tail fits) (omega (arith, length-drop 2 tail)) in
    let c : bytes_32 (number_32 (drop 6 tail)) ≡ take 4 (drop 6 tail) =
    read_32 (drop 6 tail) (bytes_drop 6 tail fits) (omega (arith, length-drop 6 tail)) in
    let d : bytes_32 (number_32 (drop 10 tail)) ≡ take 4 (drop 10 tail) =
    read_32 (drop 10 tail) (bytes_drop 10 tail fits) (omega (arith, length-drop 10 tail)) in
    let f : bytes_32 (number_32 (drop 14 tail)) ≡ take 4 (drop 14 tail) =
    read_32 (drop 14 tail) (bytes_drop 14 tail fits) (omega (arith, length-drop 14 tail)) in
    let e14 : take 18 tail ≡ take 14 tail ++ take 4 (drop 14 tail) = take-add 14 4 tail in
    let e10 : take 14 tail ≡ take 10 tail ++ take 4 (drop 10 tail) = take-add 10 4 tail in
    let e6 : take 10 tail ≡ take 6 tail ++ take 4 (drop 6 tail) = take-add 6 4 tail in
    let e2 : take 6 tail ≡ take 2 tail ++ take 4 (drop 2 tail) = take-add 2 4 tail in
    rw (a, b, c, d, f, e14, e10, e6, e2, one, none) refl

-- ## Parts

offset_some : (n : ℕ) → offset (suc n) ≡ Some (suc n)
offset_some n = let apart : suc n ≡ 0 → ⊥ = λ e. omega (arith, e) in ap (λ (b : Bool). cond b None (Some (suc n))) (ne_eqb (suc n) 0 apart)

part_read : {A : Type 0} (item : List ℕ → ℕ → Result A ℕ) (Is : List ℕ → A → Type 0) (bytes : List ℕ)
    → ((place : ℕ) (x : A) → item bytes place ≡ Ok x → Is (drop place bytes) x)
    → (n : ℕ) (part : Option A) → part_at item bytes (offset n) ≡ Ok part → IsPart Is bytes n part
unfolding part_at
part_read {A} item Is bytes reads zero part e = subst (λ (p : Option A). IsPart Is bytes 0 p) (ok_is None part e) refl
part_read {A} item Is bytes reads (suc n) part e =
    let there : part_at item bytes (Some (suc n)) ≡ Ok part = ap (part_at item bytes) (sym (offset_some n)) ∙ e in
    let b = bind_ok (item bytes (suc n)) (λ x. Ok (Some x)) part there in
    subst (λ (p : Option A). IsPart Is bytes (suc n) p) (ok_is (Some b.0) part b.2) (omega arith, reads (suc n) b.0 b.1)

part_again : {A : Type 0} (item : List ℕ → ℕ → Result A ℕ) (Is : List ℕ → A → Type 0) (bytes : List ℕ)
    → ((place : ℕ) (x : A) → Is (drop place bytes) x → item bytes place ≡ Ok x)
    → (n : ℕ) (part : Option A) → IsPart Is bytes n part → part_at item bytes (offset n) ≡ Ok part
unfolding part_at
part_again item Is bytes again zero None h = refl
part_again item Is bytes again zero (Some x) h = absurd (omega (arith, h.0))
part_again item Is bytes again (suc n) None h = absurd (omega (arith, h))
part_again item Is bytes again (suc n) (Some x) h =
    ap (part_at item bytes) (offset_some n) ∙ ap (λ read. read >>= λ y. Ok (Some y)) (again (suc n) x h.1)

pub sid_at_read : (bytes : List ℕ) → IsBytes bytes → (place : ℕ) (sid : Sid) → sid_at bytes place ≡ Ok sid → IsSid (drop place bytes) sid
unfolding sid_at
sid_at_read bytes fits place sid e =
    let rest = drop place bytes in
    let is = passed (is_sid rest) place (Ok (sid_of rest)) sid e in
    subst (λ (s : Sid). IsSid rest s) (ok_is (sid_of rest) sid is.1) (sid_read rest (bytes_drop place bytes fits) is.0)

pub sid_at_again : (bytes : List ℕ) (place : ℕ) (sid : Sid) → IsSid (drop place bytes) sid → sid_at bytes place ≡ Ok sid
unfolding sid_at
sid_at_again bytes place sid h = let a = sid_again (drop place bytes) sid h in rw (a.is, a.value) refl

pub acl_at_read : (bytes : List ℕ) → IsBytes bytes → (place : ℕ) (aces : List Ace) → acl_at bytes place ≡ Ok aces
    → BeginsAcl (drop place bytes) aces
unfolding acl_at
acl_at_read bytes fits place aces e = acl_read place (drop place bytes) aces (bytes_drop place bytes fits) e

pub acl_at_again : (bytes : List ℕ) (place : ℕ) (aces : List Ace) → BeginsAcl (drop place bytes) aces → acl_at bytes place ≡ Ok aces
unfolding acl_at
acl_at_again bytes place aces h = acl_again place (drop place bytes) aces h

list_offset_is : (b : Bool) (n : ℕ) → cond b (offset n) None ≡ offset (cond b n 0)
list_offset_is true n = refl
list_offset_is false n = refl

-- ## All of it

found : (first second : ℕ) (tail : List ℕ) (d : Descriptor) → IsBytes (first ∷ second ∷ tail) → is_header (first ∷ second ∷ tail) ≡ true
    → parts_of (first ∷ second ∷ tail) (descriptor_header (first ∷ second ∷ tail)) ≡ Ok d
    → Describes (first ∷ second ∷ tail) d
unfolding parts_of
found first second tail d fits is e =
    let bytes = first ∷ second ∷ tail in
    let tail_fits : IsBytes tail = bytes_drop 2 bytes fits in
    let t = header_test bytes is in
    let header = descriptor_header bytes in
    let list_at_header = part_at acl_at bytes header.list in
    let owner = bind_ok (part_at sid_at bytes header.owner)
    (λ owner. part_at sid_at bytes header.group >>= λ group. list_at_header >>= λ list. Ok
    (record { owner = owner; group = group; list = list })) d e in
    let group = bind_ok (part_at sid_at bytes header.group)
    (λ group. list_at_header >>= λ list. Ok (record { owner = owner.0; group = group; list = list })) d owner.2 in
    let list = bind_ok list_at_header (λ list. Ok (record { owner = owner.0; group = group.0; list = list })) d group.2 in
    let control = number_16 tail in
    let list_number = number_32 (drop 14 tail) in
    let front = header_parts first second tail tail_fits (omega (arith, t.long)) t.revision t.none in
    subst (λ (x : Descriptor). Describes bytes x) (ok_is (record { owner = owner.0; group = group.0; list = list.0 }) d list.2) (record {
      control = control;
      owner = number_32 (drop 2 tail);
      group = number_32 (drop 6 tail);
      audit = number_32 (drop 10 tail);
      list = list_number;
      header = record {
        rest = drop 18 tail;
        parts = sym (ap (λ (l : List ℕ). l ++ drop 18 tail) front ∙ ap (λ (l : List ℕ). first ∷ second ∷ l) (take-append-drop 18 tail));
      };
      control_fits = small_16 tail tail_fits;
      owner_fits = small_32 (drop 2 tail) (bytes_drop 2 tail tail_fits);
      group_fits = small_32 (drop 6 tail) (bytes_drop 6 tail tail_fits);
      list_fits = small_32 (drop 14 tail) (bytes_drop 14 tail tail_fits);
      self_relative = t.self_relative;
      owner_is = part_read sid_at IsSid bytes (sid_at_read bytes fits) (number_32 (drop 2 tail)) owner.0 owner.1;
      group_is = part_read sid_at IsSid bytes (sid_at_read bytes fits) (number_32 (drop 6 tail)) group.0 group.1;
      list_is = part_read acl_at BeginsAcl bytes (acl_at_read bytes fits) (cond (has_bits control 4) list_number 0) list.0
          (ap (part_at acl_at bytes) (sym (list_offset_is (has_bits control 4) list_number)) ∙ list.1);
    })

pub by_parts : (bytes : List ℕ) (d : Descriptor) → described bytes ≡ Ok d
    → (is_header bytes ≡ true) × (parts_of bytes (descriptor_header bytes) ≡ Ok d)
unfolding described header_in
by_parts bytes d e =
    let first = bind_ok (header_in bytes) (parts_of bytes) d e in
    let is = passed (is_header bytes) 0 (Ok (descriptor_header bytes)) first.0 first.1 in
    (is.0, ap (parts_of bytes) (ok_is (descriptor_header bytes) first.0 is.1) ∙ first.2)

pub is_described : (bytes : List ℕ) (d : Descriptor) → IsBytes bytes → described bytes ≡ Ok d → Describes bytes d
is_described [] d fits e = let p = by_parts [] d e in absurd cc
is_described (first ∷ []) d fits e = let p = by_parts (first ∷ []) d e in absurd cc
is_described (first ∷ second ∷ tail) d fits e = let p = by_parts (first ∷ second ∷ tail) d e in found first second tail d fits p.0 p.1

-- ## What is described is read

header_made : Option ℕ → Option ℕ → Option ℕ → Header
header_made owner group list = record { owner = owner; group = group; list = list }

module _ (control owner group audit list : ℕ) (rest : List ℕ) (c : control < 2 ^ 16) (o : owner < 2 ^ 32) (g : group < 2 ^ 32)
    (l : list < 2 ^ 32) where
  abbrev all : List ℕ
  all = header_bytes control owner group audit list ++ rest

  control_again : control_bits all ≡ control
  unfolding header_bytes bytes_16 bytes_32 number_16
  control_again = from_le_bytes-to_le_bytes_2 control c

  owner_again : number_32 (drop 4 all) ≡ owner
  unfolding header_bytes bytes_16 bytes_32 number_32
  owner_again = from_le_bytes-to_le_bytes_4 owner o

  group_again : number_32 (drop 8 all) ≡ group
  unfolding header_bytes bytes_16 bytes_32 number_32
  group_again = from_le_bytes-to_le_bytes_4 group g

  list_again : number_32 (drop 16 all) ≡ list
  unfolding header_bytes bytes_16 bytes_32 number_32
  list_again = from_le_bytes-to_le_bytes_4 list l

  length_again : length all ≡ 20 + length rest
  unfolding header_bytes bytes_16 bytes_32
  length_again = omega arith

  first_again : slice_index all 0 ≡ 1
  unfolding header_bytes
  first_again = refl

  second_again : slice_index all 1 ≡ 0
  unfolding header_bytes
  second_again = refl

  is_again : has_bits control 0x8000 ≡ true → is_header all ≡ true
  is_again self = header_tested all
      (record {
        long = omega (arith, length_again);
        revision = first_again;
        none = second_again;
        self_relative =
            ap (λ n. has_bits n 0x8000) control_again ∙ self;
      })

  header_again : descriptor_header all ≡ header_made (offset owner) (offset group) (list_offset control list)
  unfolding header_made
  header_again =
      ap (λ n. header_made (offset n) (offset (number_32 (drop 8 all)))
      (list_offset (control_bits all) (number_32 (drop 16 all)))) owner_again
      ∙ ap (λ n. header_made (offset owner) (offset n) (list_offset (control_bits all) (number_32 (drop 16 all)))) group_again
      ∙ ap (λ n. header_made (offset owner) (offset group) (list_offset n (number_32 (drop 16 all)))) control_again
      ∙ ap (λ n. header_made (offset owner) (offset group) (list_offset control n)) list_again

parts_again : (bytes : List ℕ) (d : Descriptor) (owner group list : Option ℕ) → part_at sid_at bytes owner ≡ Ok d.owner
    → part_at sid_at bytes group ≡ Ok d.group → part_at acl_at bytes list ≡ Ok d.list
    → parts_of bytes (header_made owner group list) ≡ Ok d
unfolding parts_of header_made
parts_again bytes d owner group list o g l = rw (o, g, l) refl

pub described_again : (bytes : List ℕ) (d : Descriptor) → Describes bytes d → described bytes ≡ Ok d
unfolding described header_in
described_again bytes d h =
    let e = h.header.parts in
    let is : is_header bytes ≡ true =
    ap is_header e
    ∙ is_again h.control h.owner h.group h.audit h.list h.header.rest h.control_fits h.owner_fits h.group_fits h.list_fits
    h.self_relative in
    let header : descriptor_header bytes ≡ header_made (offset h.owner) (offset h.group) (list_offset h.control h.list) =
    ap descriptor_header e
    ∙ header_again h.control h.owner h.group h.audit h.list h.header.rest h.control_fits h.owner_fits h.group_fits h.list_fits in
    let owner = part_again sid_at IsSid bytes (sid_at_again bytes) h.owner d.owner h.owner_is in
    let group = part_again sid_at IsSid bytes (sid_at_again bytes) h.group d.group h.group_is in
    let list : part_at acl_at bytes (list_offset h.control h.list) ≡ Ok d.list =
    ap (part_at acl_at bytes) (list_offset_is (has_bits h.control 4) h.list)
    ∙ part_again acl_at BeginsAcl bytes (acl_at_again bytes) (cond (has_bits h.control 4) h.list 0) d.list h.list_is in
    let parts = parts_again bytes d (offset h.owner) (offset h.group) (list_offset h.control h.list) owner group list in
    ap (λ b. cond b (Ok (descriptor_header bytes)) (Err 0) >>= parts_of bytes) is ∙ ap (parts_of bytes) header ∙ parts
