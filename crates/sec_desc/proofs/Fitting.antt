-- What is described can be written.
use Rattle.std.proofs.Common.{ℕ, ◌+◌, ◌≤◌, cond, Option, Some, None, List, [], ◌∷◌, ◌++◌, length, drop, Result, Ok, Err, ap, length-append}
use Rattle.std.proofs.Common.{arith}
use Rattle.std.specs.Prelude.{All, IfOk, IfSome}
use Rattle.std.specs.List.{AllByRecursion}
use Rattle.std.proofs.lemmas.List.Elements.{All-from_recursion}
use Rattle.sec_desc.specs.declared.value.Ace.{Ace}
use Rattle.sec_desc.specs.declared.value.Descriptor.{Descriptor}
use Rattle.sec_desc.specs.declared.value.DescFault.{DescFault}
use Rattle.sec_desc.specs.Numbers.{bytes_16}
use Rattle.sec_desc.specs.Reading.{ReadsAs, described}
use Rattle.sec_desc.specs.Writing.{IsAceValue, IsShort, IsSidValue, IsValue, IsWritable, IsWritableAcl, ace_front, sid_bytes, size_of_ace}
use Rattle.sec_desc.specs.Writing.{size_of_aces}
use Rattle.sec_desc.specs.Described.{AreAces, BeginsAcl, Describes, IsAce, IsAcl, IsPart, IsSid}
use Rattle.sec_desc.proofs.Aces.{front_length}
use Rattle.sec_desc.proofs.Bytes.{IsBytes}
use Rattle.sec_desc.proofs.Descriptors.{is_described}
use Rattle.sec_desc.proofs.Identities.{length_sid}
use Rattle.scm_text.specs.Numbers.{has_bits}

-- an entry has the bytes of its written form and more
size_within : (entry : List ℕ) (ace : Ace) → IsAce entry ace → size_of_ace ace ≤ length entry
size_within entry ace h =
    let front = ace_front ace (length entry) in
    omega (
      arith,
      ap length h.parts,
      length-append (front ++ sid_bytes ace.sid) h.slack,
      length-append front (sid_bytes ace.sid),
      front_length ace (length entry),
      length_sid ace.sid h.value.sid.authority,
    )

-- what is known of entries that stand in bytes
pub record Fit (bytes : List ℕ) (aces : List Ace) : Type 0 where
  pub short : AllByRecursion (λ (ace : Ace). IsShort ace.sid) aces
  pub values : AllByRecursion IsAceValue aces
  pub size : size_of_aces aces ≤ length bytes

pub aces_fit : (bytes : List ℕ) (aces : List Ace) → AreAces bytes aces → Fit bytes aces
unfolding AreAces size_of_aces
aces_fit bytes [] h = record { short = tt; values = tt; size = omega arith }
aces_fit bytes (ace ∷ aces) h =
    let rest = aces_fit h.1 aces h.4 in
    record {
      short = (h.3.short, rest.short);
      values = (h.3.value, rest.values);
      size = omega (arith, ap length h.2, length-append h.0 h.1, size_within h.0 ace h.3, rest.size);
    }

body_within : (list : List ℕ) (aces : List Ace) (h : IsAcl list aces) → 8 + length h.body ≤ length list
unfolding bytes_16
body_within list aces h =
    let front = h.revision ∷ h.unread ∷ bytes_16 (length list) ++ bytes_16 (length aces) in
    omega (arith, ap length h.parts, length-append (front ++ h.unread_too) h.body, length-append front h.unread_too, h.two)

acl_fits : (bytes : List ℕ) (aces : List Ace) → BeginsAcl bytes aces → IsWritableAcl aces × All IsAceValue aces
acl_fits bytes aces h =
    let fit = aces_fit h.is.body aces h.is.entries in (
      record {
        short = All-from_recursion (λ (ace : Ace). IsShort ace.sid) aces fit.short;
        size = omega (arith, fit.size, body_within h.list aces h.is, h.is.size);
      },
      All-from_recursion IsAceValue aces fit.values,
    )

part_fits : {A : Type 0} (Is : List ℕ → A → Type 0) (P : A → Type 0) (bytes : List ℕ) → ((rest : List ℕ) (x : A) → Is rest x → P x)
    → (n : ℕ) (part : Option A) → IsPart Is bytes n part → IfSome part P
part_fits Is P bytes fits n None h = tt
part_fits Is P bytes fits n (Some x) h = fits (drop n bytes) x h.1

pub can_be_written : (bytes : List ℕ) (d : Descriptor) → Describes bytes d → IsWritable d × IsValue d
can_be_written bytes d h =
    let list = cond (has_bits h.control 4) h.list 0 in (
      record {
        owner = part_fits IsSid IsShort bytes (λ rest sid is. is.short) h.owner d.owner h.owner_is;
        group = part_fits IsSid IsShort bytes (λ rest sid is. is.short) h.group d.group h.group_is;
        list = part_fits BeginsAcl IsWritableAcl bytes (λ rest aces is. (acl_fits rest aces is).0) list d.list h.list_is;
      },
      record {
        owner = part_fits IsSid IsSidValue bytes (λ rest sid is. is.value) h.owner d.owner h.owner_is;
        group = part_fits IsSid IsSidValue bytes (λ rest sid is. is.value) h.group d.group h.group_is;
        list = part_fits BeginsAcl (All IsAceValue) bytes (λ rest aces is. (acl_fits rest aces is).1) list d.list h.list_is;
      },
    )

-- ## What a reader returns

pub told_found : (bytes : List ℕ) (result : Result Descriptor DescFault) → IsBytes bytes → ReadsAs (λ d. d) result (described bytes)
    → IfOk result (λ d. Describes bytes d)
told_found bytes (Ok d) fits e = is_described bytes d fits e
told_found bytes (Err fault) fits e = tt

pub told_writable : (bytes : List ℕ) (result : Result Descriptor DescFault) → IsBytes bytes → ReadsAs (λ d. d) result (described bytes)
    → IfOk result (λ d. IsWritable d × IsValue d)
told_writable bytes (Ok d) fits e = can_be_written bytes d (is_described bytes d fits e)
told_writable bytes (Err fault) fits e = tt
