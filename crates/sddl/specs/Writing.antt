-- The text of a descriptor.
use Rattle.std.specs.Prelude.{ℕ, zero, Bool, true, false, ◌/◌, ◌%◌, List, [], ◌∷◌, ◌++◌, Option, None, Some, decimal, codes, if◌then◌else◌}
use Rattle.std.specs.Fmt.{digits, digit_glyph}
use Rattle.std.specs.Int.{w32, from_be_bytes}
use Rattle.std.specs.List.{flat_map}
use Rattle.sec_desc.specs.declared.value.Ace.{Ace}
use Rattle.sec_desc.specs.declared.value.Sid.{Sid}
use Rattle.sec_desc.specs.declared.value.Descriptor.{Descriptor}
use Rattle.sddl.specs.declared.tables.KnownSid.{KnownSid}
use Rattle.sddl.specs.declared.tables.Letters.{Letters}
use Rattle.sddl.specs.Tables.{access_rights, ace_flags, all_rights, known_by_sid}
use Rattle.scm_text.specs.Numbers.{has_bits}

-- ## Bits

abbrev pub pair_if : ℕ → Letters → List ℕ
pair_if bits it = if has_bits bits it.bit then it.pair else []

-- the letters of the bits that have some
unfoldable pub letters_text : List Letters → ℕ → List ℕ
letters_text table bits = flat_map (pair_if bits) table

-- in letters, or in hexadecimal if a right has none
unfoldable pub rights_text : ℕ → List ℕ
rights_text mask = if has_bits all_rights mask then letters_text access_rights mask else codes "0x" ++ digits 16 false mask

-- ## Identities

unfoldable pub hex_byte : ℕ → List ℕ
hex_byte byte = digit_glyph false (byte / 16) ∷ digit_glyph false (byte % 16) ∷ []

-- in decimal if it has 32 bits
unfoldable pub authority_text : List ℕ → List ℕ
authority_text (zero ∷ zero ∷ low) = decimal (from_be_bytes w32 low)
authority_text bytes = codes "0x" ++ flat_map hex_byte bytes

abbrev pub part_text : ℕ → List ℕ
part_text part = codes "-" ++ decimal part

unfoldable pub long_text : Sid → List ℕ
long_text sid = codes "S-1-" ++ authority_text sid.authority ++ flat_map part_text sid.parts

abbrev pub text_by : Option KnownSid → Sid → List ℕ
text_by (Some it) sid = it.letters
text_by None sid = long_text sid

-- by two letters if there are some for it
unfoldable pub sid_text : Sid → List ℕ
sid_text sid = text_by (known_by_sid sid) sid

-- ## Entries, and all of it

abbrev pub kind_text : Bool → List ℕ
kind_text true = codes "D"
kind_text false = codes "A"

-- what stands before an entry's identity
unfoldable pub head_text : Ace → List ℕ
head_text ace =
    codes "(" ++ kind_text ace.deny ++ codes ";" ++ letters_text ace_flags ace.flags ++ codes ";" ++ rights_text ace.mask ++ codes ";;;"

unfoldable pub ace_text : Ace → List ℕ
ace_text ace = head_text ace ++ sid_text ace.sid ++ codes ")"

abbrev pub part_if : {A : Type 0} → List ℕ → (A → List ℕ) → Option A → List ℕ
part_if label text None = []
part_if label text (Some x) = label ++ text x

-- owner, group and list, as far as they are there
unfoldable pub sddl_text : Descriptor → List ℕ
sddl_text d =
    part_if (codes "O:") sid_text d.owner ++ part_if (codes "G:") sid_text d.group ++ part_if (codes "D:") (flat_map ace_text) d.list
