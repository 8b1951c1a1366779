-- Which bytes describe a descriptor: a relation beside reading.
use Rattle.std.specs.Prelude.{◌≡◌, ◌⊎◌, ℕ, true, ◌<◌, ◌^◌, List, [], ◌∷◌, ◌++◌, length, drop, Option, None, Some, if◌then◌else◌}
use Rattle.sec_desc.specs.declared.codes.TheConstants.{ACL_REVISION, ACL_REVISION_DS, SE_DACL_PRESENT, SE_SELF_RELATIVE}
use Rattle.sec_desc.specs.declared.value.Ace.{Ace}
use Rattle.sec_desc.specs.declared.value.Sid.{Sid}
use Rattle.sec_desc.specs.declared.value.Descriptor.{Descriptor}
use Rattle.sec_desc.specs.Numbers.{bytes_16}
use Rattle.sec_desc.specs.Writing.{IsAceValue, IsShort, IsSidValue, ace_front, header_bytes, sid_bytes}
use Rattle.scm_text.specs.Numbers.{has_bits}

-- an item stands at the front of the bytes
pub record Begins (bytes item : List ℕ) : Type 0 where
  pub rest : List ℕ
  pub parts : bytes ≡ item ++ rest

pub record IsSid (bytes : List ℕ) (sid : Sid) : Type 0 where
  pub bytes_are : Begins bytes (sid_bytes sid)
  pub value : IsSidValue sid
  pub short : IsShort sid

-- all the bytes of an entry, whose size they are; after its identity they may be anything
pub record IsAce (bytes : List ℕ) (ace : Ace) : Type 0 where
  pub slack : List ℕ
  pub parts : bytes ≡ ace_front ace (length bytes) ++ sid_bytes ace.sid ++ slack
  pub size : length bytes < 2 ^ 16
  pub value : IsAceValue ace
  pub short : IsShort ace.sid

-- an entry of so many bytes stands at the front
pub record BeginsAce (bytes : List ℕ) (ace : Ace) (size : ℕ) : Type 0 where
  pub entry : List ℕ
  pub bytes_are : Begins bytes entry
  pub size_is : length entry ≡ size
  pub is : IsAce entry ace

-- the entries stand at the front, one after the other
unfoldable pub AreAces : List ℕ → List Ace → Type 0
AreAces bytes [] = Unit {0}
AreAces bytes (ace ∷ aces) = (entry : List ℕ) × (rest : List ℕ) × (bytes ≡ entry ++ rest) × IsAce entry ace × AreAces rest aces

-- all the bytes of a list, whose size they are; its second byte and those after the count are unread
pub record IsAcl (bytes : List ℕ) (aces : List Ace) : Type 0 where
  pub revision : ℕ
  pub is_revision : (revision ≡ ACL_REVISION) ⊎ (revision ≡ ACL_REVISION_DS)
  pub unread : ℕ
  pub unread_too : List ℕ
  pub two : length unread_too ≡ 2
  pub body : List ℕ
  pub parts : bytes ≡ revision ∷ unread ∷ bytes_16 (length bytes) ++ bytes_16 (length aces) ++ unread_too ++ body
  pub size : length bytes < 2 ^ 16
  pub count : length aces < 2 ^ 16
  pub entries : AreAces body aces

pub record BeginsAcl (bytes : List ℕ) (aces : List Ace) : Type 0 where
  pub list : List ℕ
  pub bytes_are : Begins bytes list
  pub is : IsAcl list aces

-- a part stands at its offset; 0 is none
abbrev pub IsPart : {A : Type 0} → (List ℕ → A → Type 0) → List ℕ → ℕ → Option A → Type 0
IsPart Is bytes offset None = offset ≡ 0
IsPart Is bytes offset (Some x) = (0 < offset) × Is (drop offset bytes) x

-- the parts may stand anywhere within the bytes, also over one another; an auditing list is unread
pub record Describes (bytes : List ℕ) (d : Descriptor) : Type 0 where
  pub control : ℕ
  pub owner : ℕ
  pub group : ℕ
  pub audit : ℕ
  pub list : ℕ
  pub header : Begins bytes (header_bytes control owner group audit list)
  pub control_fits : control < 2 ^ 16
  pub owner_fits : owner < 2 ^ 32
  pub group_fits : group < 2 ^ 32
  pub list_fits : list < 2 ^ 32
  pub self_relative : has_bits control SE_SELF_RELATIVE ≡ true
  pub owner_is : IsPart IsSid bytes owner d.owner
  pub group_is : IsPart IsSid bytes group d.group
  pub list_is : IsPart BeginsAcl bytes (if has_bits control SE_DACL_PRESENT then list else 0) d.list
