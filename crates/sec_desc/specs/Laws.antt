-- What writing and reading have to do with each other, and with the bytes.
use Rattle.std.specs.Prelude.{ℕ, ◌≡◌, ◌↔◌, List, drop, Ok}
use Rattle.sec_desc.specs.declared.value.Ace.{Ace}
use Rattle.sec_desc.specs.declared.value.Sid.{Sid}
use Rattle.sec_desc.specs.declared.value.Descriptor.{Descriptor}
use Rattle.sec_desc.specs.Described.{BeginsAce, BeginsAcl, Describes, IsSid}
use Rattle.sec_desc.specs.Reading.{ace_in, acl_at, described, sid_at}
use Rattle.sec_desc.specs.Writing.{parts_asked, descriptor_bytes}

-- an item is read at a place if, and only if, it stands there; else the place is the fault

abbrev pub AreExactSids : List ℕ → Type 0
AreExactSids bytes = (place : ℕ) (sid : Sid) → (sid_at bytes place ≡ Ok sid) ↔ IsSid (drop place bytes) sid

abbrev pub AreExactAcls : List ℕ → Type 0
AreExactAcls bytes = (place : ℕ) (aces : List Ace) → (acl_at bytes place ≡ Ok aces) ↔ BeginsAcl (drop place bytes) aces

abbrev pub AreExactAces : List ℕ → Type 0
AreExactAces bytes = (place : ℕ) (ace : Ace) (size : ℕ) → (ace_in place bytes ≡ Ok (ace, size)) ↔ BeginsAce bytes ace size

abbrev pub IsReadExactly : List ℕ → Type 0
IsReadExactly bytes = (d : Descriptor) → (described bytes ≡ Ok d) ↔ Describes bytes d

-- what is written is read as the parts that were asked for
abbrev pub IsReadBack : Descriptor → ℕ → Type 0
IsReadBack d parts = described (descriptor_bytes d parts) ≡ Ok (parts_asked d parts)
