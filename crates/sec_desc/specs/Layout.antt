-- What stands at the front of bytes, as a test on the bytes and what they tell then.
use Rattle.std.specs.Prelude.{ℕ, Bool, ◌+◌, ◌*◌, ◌==◌, ◌&&◌, ◌||◌, nat_le, List, length, take, drop, slice_index, slice_range, Option, None}
use Rattle.std.specs.Prelude.{Some, if◌then◌else◌}
use Rattle.sec_desc.specs.declared.codes.TheConstants.{ACCESS_DENIED_ACE_TYPE, ACL_REVISION, ACL_REVISION_DS, SECURITY_DESCRIPTOR_REVISION}
use Rattle.sec_desc.specs.declared.codes.TheConstants.{SE_DACL_PRESENT, SE_SELF_RELATIVE, SID_MAX_SUB_AUTHORITIES, SID_REVISION}
use Rattle.sec_desc.specs.declared.value.Ace.{Ace}
use Rattle.sec_desc.specs.declared.value.Sid.{Sid}
use Rattle.sec_desc.specs.declared.layout.AceHeader.{AceHeader}
use Rattle.sec_desc.specs.declared.layout.AclHeader.{AclHeader}
use Rattle.sec_desc.specs.declared.layout.Header.{Header}
use Rattle.sec_desc.specs.Numbers.{number_16, number_32, numbers_32}
use Rattle.scm_text.specs.Numbers.{has_bits}

-- ## A descriptor: revision, a zero byte, control, and the offsets of owner, group, auditing list and list

abbrev pub control_bits : List ℕ → ℕ
control_bits bytes = number_16 (drop 2 bytes)

abbrev pub is_header : List ℕ → Bool
is_header bytes =
    nat_le 20 (length bytes) && slice_index bytes 0 == SECURITY_DESCRIPTOR_REVISION && slice_index bytes 1 == 0
    && has_bits (control_bits bytes) SE_SELF_RELATIVE

-- an offset of 0 is none
abbrev pub offset : ℕ → Option ℕ
offset n = if n == 0 then None else Some n

-- the list's offset counts if the control says that there is a list
abbrev pub list_offset : ℕ → ℕ → Option ℕ
list_offset control n = if has_bits control SE_DACL_PRESENT then offset n else None

abbrev pub descriptor_header : List ℕ → Header
descriptor_header bytes = record {
  owner = offset (number_32 (drop 4 bytes));
  group = offset (number_32 (drop 8 bytes));
  list = list_offset (control_bits bytes) (number_32 (drop 16 bytes));
}

-- ## An identity: revision, how many parts, six bytes of authority, and the parts

-- how many bytes an identity of so many parts has
abbrev pub sid_size : ℕ → ℕ
sid_size count = 8 + 4 * count

abbrev pub is_sid : List ℕ → Bool
is_sid bytes =
    nat_le 8 (length bytes) && slice_index bytes 0 == SID_REVISION && nat_le (slice_index bytes 1) SID_MAX_SUB_AUTHORITIES
    && nat_le (sid_size (slice_index bytes 1)) (length bytes)

abbrev pub sid_of : List ℕ → Sid
sid_of bytes = record { authority = take 6 (drop 2 bytes); parts = numbers_32 (slice_index bytes 1) (drop 8 bytes) }

-- ## An entry: type, flags, size, mask, and an identity within the size

abbrev pub ace_size : List ℕ → ℕ
ace_size bytes = number_16 (drop 2 bytes)

abbrev pub is_ace : List ℕ → Bool
is_ace bytes =
    nat_le 8 (length bytes) && nat_le (slice_index bytes 0) ACCESS_DENIED_ACE_TYPE && is_sid (drop 8 bytes)
    && nat_le (8 + sid_size (slice_index bytes 9)) (ace_size bytes) && nat_le (ace_size bytes) (length bytes)

abbrev pub ace_header_of : List ℕ → AceHeader
ace_header_of bytes = record {
  deny = slice_index bytes 0 == ACCESS_DENIED_ACE_TYPE;
  flags = slice_index bytes 1;
  mask = number_32 (drop 4 bytes);
  size = ace_size bytes;
}

abbrev pub ace_of : List ℕ → Ace
ace_of bytes = record {
  deny = slice_index bytes 0 == ACCESS_DENIED_ACE_TYPE;
  flags = slice_index bytes 1;
  mask = number_32 (drop 4 bytes);
  sid = sid_of (drop 8 bytes);
}

-- ## A list: revision, an unread byte, size, how many entries, two unread bytes, and the entries within the size

abbrev pub acl_size : List ℕ → ℕ
acl_size bytes = number_16 (drop 2 bytes)

abbrev pub acl_count : List ℕ → ℕ
acl_count bytes = number_16 (drop 4 bytes)

abbrev pub is_acl : List ℕ → Bool
is_acl bytes =
    nat_le 8 (length bytes) && (slice_index bytes 0 == ACL_REVISION || slice_index bytes 0 == ACL_REVISION_DS)
    && nat_le 8 (acl_size bytes) && nat_le (acl_size bytes) (length bytes)

abbrev pub acl_header_of : List ℕ → AclHeader
acl_header_of bytes = record { size = acl_size bytes; count = acl_count bytes }

-- what stands in a list after its first eight bytes
abbrev pub acl_body : List ℕ → List ℕ
acl_body bytes = slice_range bytes 8 (acl_size bytes)
