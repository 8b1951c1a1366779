-- Reading a descriptor: header, owner, group, list, entries. A fault is the place of the first item that fails.
use Rattle.std.specs.Prelude.{◌≡◌, ℕ, zero, suc, ◌+◌, List, [], ◌∷◌, ◌++◌, drop, Option, None, Some, Result, Ok, Err, if◌then◌else◌}
use Rattle.sec_desc.specs.declared.value.Ace.{Ace}
use Rattle.sec_desc.specs.declared.value.Sid.{Sid}
use Rattle.sec_desc.specs.declared.value.Descriptor.{Descriptor}
use Rattle.sec_desc.specs.declared.value.DescFault.{DescFault}
use Rattle.sec_desc.specs.declared.value.DescFault.TheVariants.{Bad, OutOfMemory}
use Rattle.sec_desc.specs.declared.layout.Header.{Header}
use Rattle.sec_desc.specs.Layout.{ace_of, ace_size, acl_body, acl_count, descriptor_header, is_ace, is_acl, is_header, is_sid, sid_of}

infixl 10 ◌>>=◌
abbrev pub ◌>>=◌ : {A B : Type 0} → Result A ℕ → (A → Result B ℕ) → Result B ℕ
(Ok x) >>= f = f x
(Err place) >>= f = Err place

unfoldable pub header_in : List ℕ → Result Header ℕ
header_in bytes = if is_header bytes then Ok (descriptor_header bytes) else Err 0

unfoldable pub sid_at : List ℕ → ℕ → Result Sid ℕ
sid_at bytes place = if is_sid (drop place bytes) then Ok (sid_of (drop place bytes)) else Err place

-- an entry at the front of bytes that begin at a place, and how many bytes it has
unfoldable pub ace_in : ℕ → List ℕ → Result (Ace × ℕ) ℕ
ace_in place bytes = if is_ace bytes then Ok (ace_of bytes, ace_size bytes) else Err place

-- so many entries one after the other
unfoldable pub aces_in : ℕ → ℕ → List ℕ → Result (List Ace) ℕ
aces_in zero place bytes = Ok []
aces_in (suc n) place bytes = do
  first ← ace_in place bytes
  others ← aces_in n (place + first.1) (drop first.1 bytes)
  Ok (first.0 ∷ others)

abbrev pub acl_in : ℕ → List ℕ → Result (List Ace) ℕ
acl_in place bytes = if is_acl bytes then aces_in (acl_count bytes) (place + 8) (acl_body bytes) else Err place

unfoldable pub acl_at : List ℕ → ℕ → Result (List Ace) ℕ
acl_at bytes place = acl_in place (drop place bytes)

-- a part, if it has an offset
unfoldable pub part_at : {A : Type 0} → (List ℕ → ℕ → Result A ℕ) → List ℕ → Option ℕ → Result (Option A) ℕ
part_at item bytes None = Ok None
part_at item bytes (Some place) = item bytes place >>= λ x. Ok (Some x)

unfoldable pub parts_of : List ℕ → Header → Result Descriptor ℕ
parts_of bytes header = do
  owner ← part_at sid_at bytes header.owner
  group ← part_at sid_at bytes header.group
  list ← part_at acl_at bytes header.list
  Ok (record { owner = owner; group = group; list = list })

-- the descriptor that the bytes are, or the place of the first item that fails
unfoldable pub described : List ℕ → Result Descriptor ℕ
described bytes = header_in bytes >>= parts_of bytes

-- the same after what was read before
abbrev pub onto_front : {A : Type 0} → List A → Result (List A) ℕ → Result (List A) ℕ
onto_front front read = read >>= λ others. Ok (front ++ others)

-- the fault that reading meets, unless memory ran out
abbrev pub FailsAt : {Y : Type 0} → DescFault → Result Y ℕ → Type 0
FailsAt (Bad place) read = read ≡ Err place
FailsAt OutOfMemory read = Unit {0}

-- what a function returned is what reading gives, unless memory ran out
abbrev pub ReadsAs : {X Y : Type 0} → (X → Y) → Result X DescFault → Result Y ℕ → Type 0
ReadsAs view (Ok x) read = read ≡ Ok (view x)
ReadsAs view (Err fault) read = FailsAt fault read
