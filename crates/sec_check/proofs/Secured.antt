-- The list of bytes that are written.
use Rattle.std.proofs.Common.{ℕ, ◌≡◌, ◌⊎◌, ◌+◌, ◌^◌, ◌<◌, Bool, true, false, cond, Option, Some, None, List, [], drop, Result, Ok, Err}
use Rattle.std.proofs.Common.{refl, sym, ap, subst, ◌∙◌, inl, inr, length, ◌∷◌, arith, eqb}
use Rattle.std.specs.Prelude.{IfSome, IsOk, filter, if◌then◌else◌, slice_range}
use Rattle.std.proofs.lemmas.Bool.{eqb-false}
use Rattle.std.proofs.lemmas.List.Elements.{recursion_from_All}
use Rattle.std.proofs.lemmas.Option.{IfSome_then}
use Rattle.scm_model.specs.declared.flat.Principal.{Principal}
use Rattle.scm_model.specs.declared.codes.TheConstants.{MAXIMUM_ALLOWED}
use Rattle.sec_desc.specs.declared.value.Ace.{Ace}
use Rattle.sec_desc.specs.declared.value.Descriptor.{Descriptor}
use Rattle.sec_desc.specs.declared.layout.Header.{Header}
use Rattle.sec_desc.specs.declared.layout.AclHeader.{AclHeader}
use Rattle.sec_desc.specs.Layout.{acl_body, acl_count, acl_header_of, descriptor_header, is_acl, is_header}
use Rattle.sec_desc.specs.Reading.{◌>>=◌, aces_in, acl_at, described, part_at, parts_of, sid_at}
use Rattle.sec_desc.specs.Writing.{IsAceValue, IsWritten, parts_asked}
use Rattle.sec_desc.proofs.Back.{read_back}
use Rattle.sec_desc.proofs.Bytes.{IsBytes, bytes_drop, bytes_take}
use Rattle.sec_desc.proofs.Descriptors.{by_parts, is_described}
use Rattle.sec_desc.proofs.Fitting.{can_be_written}
use Rattle.sec_desc.proofs.Lists.{bind_ok, ok_is, passed}
use Rattle.sec_check.specs.Allowed.{aces_of, allowed_by, counts, list_of, list_read, maximum, maximum_by}
use Rattle.sec_check.proofs.Deciding.{still_small}
use Rattle.sec_check.proofs.Forward.{anywhere, values_small}
use Rattle.sec_check.specs.Laws.{AreSmall}
use Rattle.sec_check.proofs.Masking.{all_bits, passes_by_bits}
use Rattle.scm_text.specs.Numbers.{has_bits}

-- ## Reading

-- a fixed part that a reader returns
told : {A : Type 0} (b : Bool) (x y : A) → Some x ≡ cond b (Some y) None → (b ≡ true) × (x ≡ y)
told true x y e = (refl, cc)
told false x y e = absurd cc

untold : {A : Type 0} (b : Bool) (y : A) → None ≡ cond b (Some y) None → b ≡ false
untold true y e = absurd cc
untold false y e = refl

pub header_told : (bytes : List ℕ) (header : Header) → Some header ≡ cond (is_header bytes) (Some (descriptor_header bytes)) None
    → (is_header bytes ≡ true) × (header ≡ descriptor_header bytes)
header_told bytes header e = told (is_header bytes) header (descriptor_header bytes) e

pub acl_told : (bytes : List ℕ) (header : AclHeader) → Some header ≡ cond (is_acl bytes) (Some (acl_header_of bytes)) None
    → (is_acl bytes ≡ true) × (header ≡ acl_header_of bytes)
acl_told bytes header e = told (is_acl bytes) header (acl_header_of bytes) e

-- all is allowed as long as nothing is set
pub nothing_set : (bytes : List ℕ) (principal : Principal) → length bytes ≡ 0 → 0xFFFFFFFF ≡ maximum_by (list_of bytes) principal
nothing_set [] principal e = refl
nothing_set (byte ∷ bytes) principal e = absurd (omega (arith, e))

-- what is written is nothing, or is read
readable : (bytes : List ℕ) → IsWritten bytes → (bytes ≡ []) ⊎ ((d : Descriptor) × (described bytes ≡ Ok d))
readable bytes (inl e) = inl e
readable bytes (inr w) = inr (parts_asked w.0 w.1, ap described w.2 ∙ read_back w.0 w.1 w.3 w.4)

-- bytes that are written have a header
headed : (bytes : List ℕ) → 0 < length bytes → (bytes ≡ []) ⊎ ((d : Descriptor) × (described bytes ≡ Ok d)) → is_header bytes ≡ true
headed bytes lt (inl e) = absurd (omega (arith, lt, ap length e))
headed bytes lt (inr read) = (by_parts bytes read.0 read.1).0

pub header_there : (bytes : List ℕ) → IsWritten bytes → false ≡ eqb (length bytes) 0
    → None ≡ cond (is_header bytes) (Some (descriptor_header bytes)) None → ⊥
header_there bytes w some none =
    let apart : length bytes ≡ 0 → ⊥ = eqb-false (length bytes) 0 (sym some) in
    let lt : 0 < length bytes = omega (arith, apart) in
    let wrong : None ≡ Some (descriptor_header bytes) =
    none ∙ ap (λ b. cond b (Some (descriptor_header bytes)) None) (headed bytes lt (readable bytes w)) in
    absurd cc

with_header : (bytes : List ℕ) → is_header bytes ≡ true → (bytes ≡ []) ⊎ ((d : Descriptor) × (described bytes ≡ Ok d))
    → (d : Descriptor) × (described bytes ≡ Ok d)
with_header bytes is (inl e) = let wrong : is_header [] ≡ true = ap is_header (sym e) ∙ is in absurd cc
with_header bytes is (inr read) = read

list_part : (bytes : List ℕ) (d : Descriptor) → parts_of bytes (descriptor_header bytes) ≡ Ok d
    → part_at acl_at bytes (descriptor_header bytes).list ≡ Ok d.list
unfolding parts_of
list_part bytes d e =
    let header = descriptor_header bytes in
    let list = part_at acl_at bytes header.list in
    let owner = bind_ok (part_at sid_at bytes header.owner)
    (λ owner. part_at sid_at bytes header.group >>= λ group. list >>= λ list. Ok
    (record { owner = owner; group = group; list = list })) d e in
    let group = bind_ok (part_at sid_at bytes header.group)
    (λ group. list >>= λ list. Ok (record { owner = owner.0; group = group; list = list })) d owner.2 in
    let last = bind_ok list (λ list. Ok (record { owner = owner.0; group = group.0; list = list })) d group.2 in
    let made : Descriptor = record { owner = owner.0; group = group.0; list = last.0 } in
    last.1 ∙ ap (λ (x : Descriptor). Ok x.list) (ok_is made d last.2)

list_is : (bytes : List ℕ) (d : Descriptor) → described bytes ≡ Ok d → list_of bytes ≡ d.list
list_is [] d e = let wrong : is_header [] ≡ true = (by_parts [] d e).0 in absurd cc
list_is (byte ∷ bytes) d e = ap list_read e

-- the list of bytes that are written, as its offset tells
pub record Listed (bytes : List ℕ) (offset : Option ℕ) : Type 0 where
  pub list : Option (List Ace)
  pub is : list_of bytes ≡ list
  pub read : part_at acl_at bytes offset ≡ Ok list

pub listed : (bytes : List ℕ) (header : Header) → IsWritten bytes → is_header bytes ≡ true → header ≡ descriptor_header bytes
    → Listed bytes header.list
listed bytes header w is e =
    let read = with_header bytes is (readable bytes w) in
    let p = by_parts bytes read.0 read.1 in
    record {
      list = read.0.list;
      is = list_is bytes read.0 read.1;
      read =
          ap (λ (h : Header). part_at acl_at bytes h.list) e ∙ list_part bytes read.0 p.1;
    }

-- without an offset all is allowed
pub no_list : (bytes : List ℕ) (principal : Principal) → Listed bytes None → 0xFFFFFFFF ≡ maximum_by (list_of bytes) principal
unfolding part_at
no_list bytes principal l =
    let none : None ≡ l.list = ok_is None l.list l.read in
    ap (λ (list : Option (List Ace)). maximum_by list principal) (none ∙ sym l.is)

-- the entries of a list that is there
pub record Entries (bytes : List ℕ) (place : ℕ) : Type 0 where
  pub aces : List Ace
  pub is : list_of bytes ≡ Some aces
  pub acl : is_acl (drop place bytes) ≡ true
  pub read : aces_in (acl_count (drop place bytes)) (place + 8) (acl_body (drop place bytes)) ≡ Ok aces

pub entries_of : (bytes : List ℕ) (place : ℕ) → Listed bytes (Some place) → Entries bytes place
unfolding part_at acl_at
entries_of bytes place l =
    let there = bind_ok (acl_at bytes place) (λ x. Ok (Some x)) l.list l.read in
    let list = drop place bytes in
    let acl = passed (is_acl list) place (aces_in (acl_count list) (place + 8) (acl_body list)) there.0 there.1 in
    record { aces = there.0; is = l.is ∙ sym (ok_is (Some there.0) l.list there.2); acl = acl.0; read = acl.1 }

-- the same of the list's own bytes
pub record Here (list : List ℕ) (aces : List Ace) : Type 0 where
  pub acl : is_acl list ≡ true
  pub read : aces_in (acl_count list) 0 (acl_body list) ≡ Ok aces

pub here : (bytes list : List ℕ) (place : ℕ) (e : Entries bytes place) → IsBytes bytes → list ≡ drop place bytes → Here list e.aces
here bytes list place e fits same =
    let at = drop place bytes in
    let at_fits : IsBytes at = bytes_drop place bytes fits in
    let body_fits : IsBytes (acl_body at) = bytes_take _ (drop 8 at) (bytes_drop 8 at at_fits) in
    let there : Here at e.aces = record {
      acl = e.acl;
      read =
          anywhere (acl_count at) (place + 8) 0 (acl_body at) e.aces body_fits e.read;
    } in
    subst (λ (l : List ℕ). Here l e.aces) (sym same) there

pub is_ok : (read : Result (List Ace) ℕ) (aces : List Ace) → read ≡ Ok aces → IsOk read
is_ok (Ok x) aces e = refl
is_ok (Err place) aces e = absurd cc

-- ## What the code has at hand

pub without_list : (bytes : List ℕ) (header : Header) (principal : Principal) → IsWritten bytes
    → Some header ≡ cond (is_header bytes) (Some (descriptor_header bytes)) None → header.list ≡ None
    → 0xFFFFFFFF ≡ maximum_by (list_of bytes) principal
without_list bytes header principal w e none =
    let h = header_told bytes header e in
    no_list bytes principal (subst (Listed bytes) none (listed bytes header w h.0 h.1))

pub with_list : (bytes : List ℕ) (header : Header) (place : ℕ) → IsWritten bytes
    → Some header ≡ cond (is_header bytes) (Some (descriptor_header bytes)) None → header.list ≡ Some place → Entries bytes place
with_list bytes header place w e some =
    let h = header_told bytes header e in
    entries_of bytes place (subst (Listed bytes) some (listed bytes header w h.0 h.1))

pub never_missing : (list : List ℕ) (aces : List Ace) → Here list aces → None ≡ cond (is_acl list) (Some (acl_header_of list)) None → ⊥
never_missing list aces h none = let wrong : None ≡ Some (acl_header_of list) =
    none ∙ ap (λ b. cond b (Some (acl_header_of list)) None) h.acl in absurd cc

-- the entries that the code goes over
pub body_read : (list : List ℕ) (aces : List Ace) (acl : AclHeader) → Here list aces → acl ≡ acl_header_of list
    → aces_in acl.count 0 (slice_range list 8 acl.size) ≡ Ok aces
body_read list aces acl h e = ap (λ (a : AclHeader). aces_in a.count 0 (slice_range list 8 a.size)) e ∙ h.read

pub total : (bytes : List ℕ) (place : ℕ) (principal : Principal) (e : Entries bytes place) (read : Result (List Ace) ℕ) → read ≡ Ok e.aces
    → maximum (filter (counts principal) (aces_of read)) ≡ maximum_by (list_of bytes) principal
total bytes place principal e read same =
    ap (λ (r : Result (List Ace) ℕ). maximum (filter (counts principal) (aces_of r))) same
    ∙ ap (λ (list : Option (List Ace)). maximum_by list principal) (sym e.is)

-- ## Which rights

read_list_small : (bytes : List ℕ) (read : Result Descriptor ℕ) → IsBytes bytes → described bytes ≡ read → IfSome (list_read read) AreSmall
read_list_small bytes (Ok d) fits e =
    IfSome_then d.list ((can_be_written bytes d (is_described bytes d fits e)).1.list)
    (λ (aces : List Ace) values. values_small aces (recursion_from_All IsAceValue aces values))
read_list_small bytes (Err place) fits e = tt

list_small : (bytes : List ℕ) → IsBytes bytes → IfSome (list_of bytes) AreSmall
list_small [] fits = tt
list_small (byte ∷ bytes) fits = read_list_small (byte ∷ bytes) (described (byte ∷ bytes)) fits refl

by_maximum : (list : Option (List Ace)) (principal : Principal) (desired : ℕ) → IfSome list AreSmall → desired < 2 ^ 32
    → (if has_bits desired MAXIMUM_ALLOWED then Some (maximum_by list principal) else if has_bits
    (maximum_by list principal) desired then Some desired else None) ≡ allowed_by list principal desired
by_maximum None principal desired small lt = by_test (has_bits desired MAXIMUM_ALLOWED)
  where
    by_test : (b : Bool) → cond b (Some 0xFFFFFFFF) (cond (has_bits 0xFFFFFFFF desired) (Some desired) None)
        ≡ Some (cond b 0xFFFFFFFF desired)
    by_test true = refl
    by_test false = ap (λ b. cond b (Some desired) None) (all_bits desired lt)
by_maximum (Some aces) principal desired small lt =
    let counted = filter (counts principal) aces in
    ap (λ b. cond (has_bits desired MAXIMUM_ALLOWED) (Some (maximum counted)) (cond b (Some desired) None))
    (sym (passes_by_bits counted desired (still_small (counts principal) aces small) lt))

rights : (bytes : List ℕ) (principal : Principal) (desired m : ℕ) → IsBytes bytes → desired < 2 ^ 32
    → m ≡ maximum_by (list_of bytes) principal
    → (if has_bits desired MAXIMUM_ALLOWED then Some m else if has_bits m desired then Some desired else None)
    ≡ allowed_by (list_of bytes) principal desired
rights bytes principal desired m fits lt e =
    ap (λ n. cond (has_bits desired MAXIMUM_ALLOWED) (Some n) (cond (has_bits n desired) (Some desired) None)) e
    ∙ by_maximum (list_of bytes) principal desired (list_small bytes fits) lt

-- what is asked for, by the two tests of the code
module _ (bytes : List ℕ) (principal : Principal) (desired m : ℕ) (fits : IsBytes bytes) (lt : desired < 2 ^ 32)
    (e : m ≡ maximum_by (list_of bytes) principal)
    (p : has_bits desired MAXIMUM_ALLOWED ≡ false) where
  plainly : cond (has_bits m desired) (Some desired) None ≡ allowed_by (list_of bytes) principal desired
  plainly = sym (ap (λ b. cond b (Some m) (cond (has_bits m desired) (Some desired) None)) p) ∙ rights bytes principal desired m fits lt e

  pub is_granted : has_bits m desired ≡ true → Some desired ≡ allowed_by (list_of bytes) principal desired
  is_granted q = sym (ap (λ b. cond b (Some desired) None) q) ∙ plainly

  pub is_refused : has_bits m desired ≡ false → None ≡ allowed_by (list_of bytes) principal desired
  is_refused q = sym (ap (λ b. cond b (Some desired) None) q) ∙ plainly
