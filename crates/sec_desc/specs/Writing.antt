-- The written form of a descriptor.
use Rattle.std.specs.Prelude.{◌≡◌, ◌⊎◌, ℕ, Bool, true, false, ◌+◌, ◌≤◌, ◌<◌, ◌^◌, List, [], ◌∷◌, ◌++◌, length, Option, None, Some, All}
use Rattle.std.specs.Prelude.{IfSome, if◌then◌else◌}
use Rattle.std.specs.List.{flat_map}
use Rattle.std.specs.Option.{option_copied}
use Rattle.sec_desc.specs.declared.codes.TheConstants.{ACCESS_ALLOWED_ACE_TYPE, ACCESS_DENIED_ACE_TYPE, ACL_REVISION}
use Rattle.sec_desc.specs.declared.codes.TheConstants.{DACL_SECURITY_INFORMATION, GROUP_SECURITY_INFORMATION, OWNER_SECURITY_INFORMATION}
use Rattle.sec_desc.specs.declared.codes.TheConstants.{SECURITY_DESCRIPTOR_REVISION, SE_DACL_PRESENT, SE_SELF_RELATIVE}
use Rattle.sec_desc.specs.declared.codes.TheConstants.{SID_MAX_SUB_AUTHORITIES, SID_REVISION}
use Rattle.sec_desc.specs.declared.value.Ace.{Ace}
use Rattle.sec_desc.specs.declared.value.Sid.{Sid}
use Rattle.sec_desc.specs.declared.value.Descriptor.{Descriptor}
use Rattle.sec_desc.specs.declared.writing.Parts.{Parts}
use Rattle.sec_desc.specs.Numbers.{bytes_16, bytes_32}
use Rattle.sec_desc.specs.Layout.{sid_size}
use Rattle.scm_text.specs.Numbers.{has_bits}

-- ## Identities, entries and lists

unfoldable pub sid_bytes : Sid → List ℕ
sid_bytes sid = SID_REVISION ∷ length sid.parts ∷ sid.authority ++ flat_map bytes_32 sid.parts

abbrev pub ace_type : Bool → ℕ
ace_type true = ACCESS_DENIED_ACE_TYPE
ace_type false = ACCESS_ALLOWED_ACE_TYPE

-- an entry's eight bytes before its identity
unfoldable pub ace_front : Ace → ℕ → List ℕ
ace_front ace size = ace_type ace.deny ∷ ace.flags ∷ bytes_16 size ++ bytes_32 ace.mask

-- how many bytes the written entry has
abbrev pub size_of_ace : Ace → ℕ
size_of_ace ace = 8 + sid_size (length ace.sid.parts)

abbrev pub ace_bytes : Ace → List ℕ
ace_bytes ace = ace_front ace (size_of_ace ace) ++ sid_bytes ace.sid

unfoldable pub size_of_aces : List Ace → ℕ
size_of_aces [] = 0
size_of_aces (ace ∷ aces) = size_of_ace ace + size_of_aces aces

abbrev pub size_of_acl : List Ace → ℕ
size_of_acl aces = 8 + size_of_aces aces

-- a list's eight bytes before its entries, of which three are zeros
unfoldable pub acl_front : ℕ → ℕ → List ℕ
acl_front size count = ACL_REVISION ∷ 0 ∷ bytes_16 size ++ bytes_16 count ++ bytes_16 0

abbrev pub acl_bytes : List Ace → List ℕ
acl_bytes aces = acl_front (size_of_acl aces) (length aces) ++ flat_map ace_bytes aces

-- ## Descriptors

-- twenty bytes; there is no auditing list
unfoldable pub header_bytes : ℕ → ℕ → ℕ → ℕ → ℕ → List ℕ
header_bytes control owner group audit list =
    SECURITY_DESCRIPTOR_REVISION ∷ 0 ∷ bytes_16 control ++ bytes_32 owner ++ bytes_32 group ++ bytes_32 audit ++ bytes_32 list

abbrev pub part_bytes : {A : Type 0} → (A → List ℕ) → Option A → List ℕ
part_bytes item None = []
part_bytes item (Some x) = item x

abbrev pub part_size : {A : Type 0} → (A → ℕ) → Option A → ℕ
part_size size None = 0
part_size size (Some x) = size x

abbrev pub size_of_sid : Sid → ℕ
size_of_sid sid = sid_size (length sid.parts)

-- the offset of a part that begins at a place, 0 if there is no part
abbrev pub offset_of : {A : Type 0} → ℕ → Option A → ℕ
offset_of place None = 0
offset_of place (Some x) = place

abbrev pub control_for : Option (List Ace) → ℕ
control_for None = SE_SELF_RELATIVE
control_for (Some aces) = SE_SELF_RELATIVE + SE_DACL_PRESENT

abbrev pub place_of_group : Descriptor → ℕ
place_of_group d = 20 + part_size size_of_sid d.owner

abbrev pub list_place : Descriptor → ℕ
list_place d = place_of_group d + part_size size_of_sid d.group

abbrev pub header_for : Descriptor → List ℕ
header_for d =
    header_bytes (control_for d.list) (offset_of 20 d.owner) (offset_of (place_of_group d) d.group) 0 (offset_of (list_place d) d.list)

-- the header, then owner, group and list as far as they are there, without gaps
unfoldable pub packed : Descriptor → List ℕ
packed d = header_for d ++ part_bytes sid_bytes d.owner ++ part_bytes sid_bytes d.group ++ part_bytes acl_bytes d.list

abbrev pub part_if : {A : Type 0} → Bool → Option A → Option A
part_if asked part = if asked then part else None

-- the parts that are asked for, a bit each
abbrev pub parts_asked : Descriptor → ℕ → Descriptor
parts_asked d parts = record {
  owner = part_if (has_bits parts OWNER_SECURITY_INFORMATION) d.owner;
  group = part_if (has_bits parts GROUP_SECURITY_INFORMATION) d.group;
  list = part_if (has_bits parts DACL_SECURITY_INFORMATION) d.list;
}

abbrev pub descriptor_bytes : Descriptor → ℕ → List ℕ
descriptor_bytes d parts = packed (parts_asked d parts)

-- the descriptor that has these parts
abbrev pub seen : Parts → Descriptor
seen parts = record { owner = option_copied parts.owner; group = option_copied parts.group; list = option_copied parts.list }

-- ## What has a written form

abbrev pub IsShort : Sid → Type 0
IsShort sid = length sid.parts ≤ SID_MAX_SUB_AUTHORITIES

pub record IsWritableAcl (aces : List Ace) : Type 0 where
  pub short : All (λ (ace : Ace). IsShort ace.sid) aces
  pub size : size_of_acl aces < 2 ^ 16

-- no identity has more than fifteen parts, and the list's size fits its field
pub record IsWritable (d : Descriptor) : Type 0 where
  pub owner : IfSome d.owner IsShort
  pub group : IfSome d.group IsShort
  pub list : IfSome d.list IsWritableAcl

-- ## What every value of the types is

pub record IsSidValue (sid : Sid) : Type 0 where
  pub authority : length sid.authority ≡ 6
  pub parts : All (λ part. part < 2 ^ 32) sid.parts

pub record IsAceValue (ace : Ace) : Type 0 where
  pub flags : ace.flags < 2 ^ 8
  pub mask : ace.mask < 2 ^ 32
  pub sid : IsSidValue ace.sid

pub record IsValue (d : Descriptor) : Type 0 where
  pub owner : IfSome d.owner IsSidValue
  pub group : IfSome d.group IsSidValue
  pub list : IfSome d.list (All IsAceValue)

-- the written form of some parts of a descriptor, or nothing
abbrev pub IsWritten : List ℕ → Type 0
IsWritten bytes =
    (bytes ≡ []) ⊎ ((d : Descriptor) × (parts : ℕ) × (bytes ≡ descriptor_bytes d parts) × IsWritable d × IsValue d)
