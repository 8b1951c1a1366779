-- What is written is read back.
use Rattle.std.proofs.Common.{◌≡◌, ℕ, ◌^◌, ◌<◌, ◌≤◌, Bool, true, false, cond, Option, Some, None, List, [], ◌∷◌, ◌++◌, length, drop, Ok}
use Rattle.std.proofs.Common.{refl, sym, ap, subst, ◌∙◌, append_assoc, length-append, arith, inl}
use Rattle.std.specs.Prelude.{All, IfSome}
use Rattle.std.specs.List.{AllByRecursion, flat_map}
use Rattle.std.proofs.lemmas.List.{append-nil, drop_at, drop-drop}
use Rattle.std.proofs.lemmas.List.Elements.{recursion_from_All}
use Rattle.sec_desc.specs.declared.value.Ace.{Ace}
use Rattle.sec_desc.specs.declared.value.Sid.{Sid}
use Rattle.sec_desc.specs.declared.value.Descriptor.{Descriptor}
use Rattle.sec_desc.specs.Numbers.{bytes_16, bytes_32}
use Rattle.sec_desc.specs.Reading.{described}
use Rattle.sec_desc.specs.Writing.{IsAceValue, IsShort, IsSidValue, IsValue, IsWritable, IsWritableAcl, ace_bytes, ace_front, acl_bytes}
use Rattle.sec_desc.specs.Writing.{acl_front, parts_asked, control_for, descriptor_bytes, place_of_group, header_bytes, header_for}
use Rattle.sec_desc.specs.Writing.{list_place}
use Rattle.sec_desc.specs.Writing.{offset_of, part_bytes, part_if, part_size, sid_bytes, size_of_ace, size_of_aces, size_of_acl}
use Rattle.sec_desc.specs.Writing.{size_of_sid, packed}
use Rattle.sec_desc.specs.Described.{AreAces, BeginsAcl, Describes, IsAce, IsAcl, IsPart, IsSid}
use Rattle.sec_desc.proofs.Aces.{front_length}
use Rattle.sec_desc.proofs.Descriptors.{described_again}
use Rattle.sec_desc.proofs.Identities.{length_sid}
use Rattle.sec_desc.proofs.Sizes.{few_aces}
use Rattle.scm_text.specs.Numbers.{has_bits}

-- ## Lists

length_ace : (ace : Ace) → IsAceValue ace → length (ace_bytes ace) ≡ size_of_ace ace
length_ace ace value = omega (
  arith,
  length-append (ace_front ace (size_of_ace ace)) (sid_bytes ace.sid),
  front_length ace (size_of_ace ace),
  length_sid ace.sid value.sid.authority,
)

length_aces : (aces : List Ace) → AllByRecursion IsAceValue aces → length (flat_map ace_bytes aces) ≡ size_of_aces aces
unfolding size_of_aces
length_aces [] values = refl
length_aces (ace ∷ aces) values =
    omega (arith, length-append (ace_bytes ace) (flat_map ace_bytes aces), length_ace ace values.0, length_aces aces values.1)

ace_is : (ace : Ace) → IsAceValue ace → IsShort ace.sid → IsAce (ace_bytes ace) ace
ace_is ace value short =
    let size = length_ace ace value in
    record {
      slack = [];
      parts = ap (λ n. ace_front ace n ++ sid_bytes ace.sid) (sym size)
          ∙ sym (append-nil (ace_front ace (length (ace_bytes ace)) ++ sid_bytes ace.sid));
      size = omega (arith, size, short);
      value = value;
      short = short;
    }

are_aces : (aces : List Ace) → AllByRecursion IsAceValue aces → AllByRecursion (λ (ace : Ace). IsShort ace.sid) aces
    → AreAces (flat_map ace_bytes aces) aces
unfolding AreAces
are_aces [] values short = tt
are_aces (ace ∷ aces) values short =
    (ace_bytes ace, flat_map ace_bytes aces, refl, ace_is ace values.0 short.0, are_aces aces values.1 short.1)

front_of_acl : (size count : ℕ) → length (acl_front size count) ≡ 8
unfolding acl_front bytes_16
front_of_acl size count = refl

acl_parts : (aces : List Ace) (size : ℕ)
    → acl_front size (length aces) ++ flat_map ace_bytes aces
    ≡ 2 ∷ 0 ∷ bytes_16 size ++ bytes_16 (length aces) ++ bytes_16 0 ++ flat_map ace_bytes aces
unfolding acl_front
acl_parts aces size = refl

length_16 : (n : ℕ) → length (bytes_16 n) ≡ 2
unfolding bytes_16
length_16 n = refl

acl_is : (aces : List Ace) → IsWritableAcl aces → All IsAceValue aces → IsAcl (acl_bytes aces) aces
acl_is aces h values =
    let each = recursion_from_All IsAceValue aces values in
    let size : length (acl_bytes aces) ≡ size_of_acl aces =
    omega (
      arith,
      length-append (acl_front (size_of_acl aces) (length aces)) (flat_map ace_bytes aces),
      front_of_acl (size_of_acl aces) (length aces),
      length_aces aces each,
    ) in
    record {
      revision = 2;
      is_revision = inl refl;
      unread = 0;
      unread_too = bytes_16 0;
      two = length_16 0;
      body = flat_map ace_bytes aces;
      parts = acl_parts aces (size_of_acl aces)
          ∙ ap (λ n. 2 ∷ 0 ∷ bytes_16 n ++ bytes_16 (length aces) ++ bytes_16 0 ++ flat_map ace_bytes aces) (sym size);
      size = omega (arith, size, h.size);
      count = omega (arith, few_aces aces, h.size);
      entries = are_aces aces each (recursion_from_All (λ (ace : Ace). IsShort ace.sid) aces h.short);
    }

-- ## Parts

-- a part is fit to be written
abbrev IsSidFit : Sid → Type 0
IsSidFit sid = IsShort sid × IsSidValue sid

abbrev IsAclFit : List Ace → Type 0
IsAclFit aces = IsWritableAcl aces × All IsAceValue aces

both : {A : Type 0} (P Q : A → Type 0) (part : Option A) → IfSome part P → IfSome part Q → IfSome part (λ x. P x × Q x)
both P Q None p q = tt
both P Q (Some x) p q = (p, q)

sid_there : (sid : Sid) (rest : List ℕ) → IsSidFit sid → IsSid (sid_bytes sid ++ rest) sid
sid_there sid rest fit = record { bytes_are = record { rest = rest; parts = refl }; value = fit.1; short = fit.0 }

acl_there : (aces : List Ace) (rest : List ℕ) → IsAclFit aces → BeginsAcl (acl_bytes aces ++ rest) aces
acl_there aces rest fit = record { list = acl_bytes aces; bytes_are = record { rest = rest; parts = refl }; is = acl_is aces fit.0 fit.1 }

part_there : {A : Type 0} (item : A → List ℕ) (Is : List ℕ → A → Type 0) (P : A → Type 0)
    → ((x : A) (rest : List ℕ) → P x → Is (item x ++ rest) x)
    → (bytes : List ℕ) (place : ℕ) (part : Option A) (rest : List ℕ) → 0 < place → IfSome part P
    → drop place bytes ≡ part_bytes item part ++ rest → IsPart Is bytes (offset_of place part) part
part_there item Is P there bytes place None rest lt fit e = refl
part_there item Is P there bytes place (Some x) rest lt fit e = (lt, subst (λ (l : List ℕ). Is l x) (sym e) (there x rest fit))

sid_part_length : (part : Option Sid) → IfSome part IsSidFit → length (part_bytes sid_bytes part) ≡ part_size size_of_sid part
sid_part_length None fit = refl
sid_part_length (Some sid) fit = length_sid sid fit.1.authority

sid_part_small : (part : Option Sid) → IfSome part IsSidFit → part_size size_of_sid part ≤ 68
sid_part_small None fit = omega arith
sid_part_small (Some sid) fit = omega (arith, fit.0)

offset_small : {A : Type 0} (place : ℕ) (part : Option A) → place < 2 ^ 32 → offset_of place part < 2 ^ 32
offset_small place None lt = omega arith
offset_small place (Some x) lt = lt

control_small : (list : Option (List Ace)) → control_for list < 2 ^ 16
control_small None = omega arith
control_small (Some aces) = omega arith

self_relative : (list : Option (List Ace)) → has_bits (control_for list) 0x8000 ≡ true
self_relative None = refl
self_relative (Some aces) = refl

-- the list's offset counts if there is a list
list_counts : (list : Option (List Ace)) (place : ℕ) → cond (has_bits (control_for list) 4) (offset_of place list) 0 ≡ offset_of place list
list_counts None place = refl
list_counts (Some aces) place = refl

header_length : (control owner group audit list : ℕ) → length (header_bytes control owner group audit list) ≡ 20
unfolding header_bytes bytes_16 bytes_32
header_length control owner group audit list = refl

-- ## All of it

module _ (d : Descriptor) (w : IsWritable d) (v : IsValue d) where
  owner_fit : IfSome d.owner IsSidFit
  owner_fit = both IsShort IsSidValue d.owner w.owner v.owner

  group_fit : IfSome d.group IsSidFit
  group_fit = both IsShort IsSidValue d.group w.group v.group

  list_fit : IfSome d.list IsAclFit
  list_fit = both IsWritableAcl (All IsAceValue) d.list w.list v.list

  abbrev o : List ℕ
  o = part_bytes sid_bytes d.owner

  abbrev g : List ℕ
  g = part_bytes sid_bytes d.group

  abbrev l : List ℕ
  l = part_bytes acl_bytes d.list

  whole : packed d ≡ header_for d ++ (o ++ (g ++ l))
  unfolding packed
  whole = append_assoc (header_for d ++ o) g l ∙ append_assoc (header_for d) o (g ++ l)

  at_owner : drop 20 (packed d) ≡ o ++ (g ++ l)
  at_owner = ap (drop 20) whole ∙ drop_at (header_for d) (o ++ (g ++ l)) 20
      (header_length (control_for d.list) (offset_of 20 d.owner) (offset_of (place_of_group d) d.group) 0 (offset_of (list_place d) d.list))

  at_group : drop (place_of_group d) (packed d) ≡ g ++ l
  at_group =
      sym (drop-drop (part_size size_of_sid d.owner) 20 (packed d)) ∙ ap (drop (part_size size_of_sid d.owner)) at_owner
      ∙ drop_at o (g ++ l) (part_size size_of_sid d.owner) (sid_part_length d.owner owner_fit)

  at_list : drop (list_place d) (packed d) ≡ l ++ []
  at_list =
      sym (drop-drop (part_size size_of_sid d.group) (place_of_group d) (packed d)) ∙ ap (drop (part_size size_of_sid d.group)) at_group
      ∙ drop_at g l (part_size size_of_sid d.group) (sid_part_length d.group group_fit) ∙ sym (append-nil l)

  is_described : Describes (packed d) d
  is_described =
      let small_owner = sid_part_small d.owner owner_fit in
      let small_group = sid_part_small d.group group_fit in
      record {
        control = control_for d.list;
        owner = offset_of 20 d.owner;
        group = offset_of (place_of_group d) d.group;
        audit = 0;
        list = offset_of (list_place d) d.list;
        header = record { rest = o ++ (g ++ l); parts = whole };
        control_fits = control_small d.list;
        owner_fits = offset_small 20 d.owner (omega arith);
        group_fits = offset_small (place_of_group d) d.group (omega arith);
        list_fits = offset_small (list_place d) d.list (omega arith);
        self_relative = self_relative d.list;
        owner_is = part_there sid_bytes IsSid IsSidFit sid_there (packed d) 20 d.owner (g ++ l) (omega arith) owner_fit at_owner;
        group_is = part_there sid_bytes IsSid IsSidFit sid_there (packed d) (place_of_group d) d.group l (omega arith) group_fit at_group;
        list_is = subst (λ n. IsPart BeginsAcl (packed d) n d.list) (sym (list_counts d.list (list_place d)))
            (part_there acl_bytes BeginsAcl IsAclFit acl_there (packed d) (list_place d) d.list [] (omega arith) list_fit at_list);
      }

-- of what has a written form, so have the parts that are asked for
if_asked : {A : Type 0} (P : A → Type 0) (b : Bool) (part : Option A) → IfSome part P → IfSome (part_if b part) P
if_asked P true part h = h
if_asked P false part h = tt

pub read_back : (d : Descriptor) (parts : ℕ) → IsWritable d → IsValue d → described (descriptor_bytes d parts) ≡ Ok (parts_asked d parts)
read_back d parts w v =
    let some = parts_asked d parts in
    described_again (packed some) some (is_described some
    (record {
      owner = if_asked IsShort (has_bits parts 1) d.owner w.owner;
      group = if_asked IsShort (has_bits parts 2) d.group w.group;
      list = if_asked IsWritableAcl (has_bits parts 4) d.list w.list;
    })
    (record {
      owner = if_asked IsSidValue (has_bits parts 1) d.owner v.owner;
      group = if_asked IsSidValue (has_bits parts 2) d.group v.group;
      list = if_asked (All IsAceValue) (has_bits parts 4) d.list v.list;
    }))
