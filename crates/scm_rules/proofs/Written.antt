-- How long written descriptors are.
use Rattle.std.proofs.Common.{ℕ, ◌≡◌, ◌≤◌, List, [], ◌∷◌, ◌++◌, Option, None, Some, length, length-append, ap, arith, refl}
use Rattle.std.specs.Prelude.{All, IfSome, option_map}
use Rattle.std.specs.List.{AllByRecursion, flat_map}
use Rattle.std.proofs.lemmas.List.Elements.{recursion_from_All}
use Rattle.scm_model.specs.declared.flat.Service.{Service}
use Rattle.sec_desc.specs.declared.value.Ace.{Ace}
use Rattle.sec_desc.specs.declared.value.Descriptor.{Descriptor}
use Rattle.sec_desc.specs.declared.value.Sid.{Sid}
use Rattle.sec_desc.specs.Numbers.{bytes_16, bytes_32}
use Rattle.sec_desc.specs.Writing.{IsAceValue, IsShort, IsSidValue, IsWritableAcl, ace_bytes, ace_front, acl_bytes, acl_front, header_bytes}
use Rattle.sec_desc.specs.Writing.{control_for, header_for, list_place, offset_of, packed, place_of_group, part_bytes, parts_asked}
use Rattle.sec_desc.specs.Writing.{sid_bytes, size_of_ace, size_of_acl, size_of_aces}
use Rattle.sec_desc.proofs.Aces.{front_length}
use Rattle.sec_desc.proofs.Identities.{length_sid}
use Rattle.scm_rules.specs.Security.{IsSecured, base, security_in, security_of}
use Rattle.scm_rules.proofs.Secured.{Fits, asked_fits, base_fits}

-- ## Identities and lists

sid_least : (part : Option Sid) → IfSome part IsShort → IfSome part IsSidValue → length (part_bytes sid_bytes part) ≤ 68
sid_least None short value = omega arith
sid_least (Some sid) short value = omega (arith, length_sid sid value.authority, short)

length_ace : (ace : Ace) → IsAceValue ace → length (ace_bytes ace) ≡ size_of_ace ace
length_ace ace value = omega (
  arith,
  length-append (ace_front ace (size_of_ace ace)) (sid_bytes ace.sid),
  front_length ace (size_of_ace ace),
  length_sid ace.sid value.sid.authority,
)

length_aces : (aces : List Ace) → AllByRecursion IsAceValue aces → length (flat_map ace_bytes aces) ≡ size_of_aces aces
unfolding size_of_aces
length_aces [] values = refl
length_aces (ace ∷ aces) values =
    omega (arith, length-append (ace_bytes ace) (flat_map ace_bytes aces), length_ace ace values.0, length_aces aces values.1)

front_of_acl : (size count : ℕ) → length (acl_front size count) ≡ 8
unfolding acl_front bytes_16
front_of_acl size count = refl

acl_least : (part : Option (List Ace)) → IfSome part IsWritableAcl → IfSome part (All IsAceValue)
    → length (part_bytes acl_bytes part) ≤ 65535
acl_least None writable values = omega arith
acl_least (Some aces) writable values = omega (
  arith,
  length-append (acl_front (size_of_acl aces) (length aces)) (flat_map ace_bytes aces),
  front_of_acl (size_of_acl aces) (length aces),
  length_aces aces (recursion_from_All IsAceValue aces values),
  writable.size,
)

-- ## Descriptors

header_length : (control owner group audit list : ℕ) → length (header_bytes control owner group audit list) ≡ 20
unfolding header_bytes bytes_16 bytes_32
header_length control owner group audit list = refl

packed_is : (d : Descriptor)
    → packed d ≡ header_for d ++ part_bytes sid_bytes d.owner ++ part_bytes sid_bytes d.group ++ part_bytes acl_bytes d.list
unfolding packed
packed_is d = refl

packed_least : (d : Descriptor) → Fits d → length (packed d) ≤ 65691
packed_least d fits =
    let o = part_bytes sid_bytes d.owner in
    let g = part_bytes sid_bytes d.group in
    let l = part_bytes acl_bytes d.list in
    omega (
      arith,
      ap length (packed_is d),
      length-append (header_for d ++ o ++ g) l,
      length-append (header_for d ++ o) g,
      length-append (header_for d) o,
      header_length (control_for d.list) (offset_of 20 d.owner) (offset_of (place_of_group d) d.group) 0 (offset_of (list_place d) d.list),
      sid_least d.owner fits.writable.owner fits.value.owner,
      sid_least d.group fits.writable.group fits.value.group,
      acl_least d.list fits.writable.list fits.value.list,
    )

-- what a service's descriptor is answered with
pub security_least : (parts : ℕ) (row : Option Service) → IfSome row IsSecured
    → length (security_in parts (option_map security_of row)) ≤ 65691
security_least parts None secured = omega arith
security_least parts (Some row) secured =
    packed_least (parts_asked (base row.security) parts) (asked_fits (base row.security) parts (base_fits row.security secured))
