-- What a list of entries allows a principal.
use Rattle.std.specs.Prelude.{ℕ, Bool, ◌==◌, ◌&&◌, ◌||◌, List, [], ◌∷◌, Option, None, Some, Result, Ok, Err, bit_and, bit_or}
use Rattle.std.specs.Prelude.{bytes_eq, filter, if◌then◌else◌}
use Rattle.scm_model.specs.declared.codes.TheConstants.{MAXIMUM_ALLOWED}
use Rattle.scm_model.specs.declared.flat.Principal.{Principal}
use Rattle.scm_model.specs.declared.flat.Principal.TheVariants.{Admin, User}
use Rattle.sec_desc.specs.declared.codes.TheConstants.{INHERIT_ONLY_ACE}
use Rattle.sec_desc.specs.declared.value.Ace.{Ace}
use Rattle.sec_desc.specs.declared.value.Descriptor.{Descriptor}
use Rattle.sec_desc.specs.declared.value.Sid.{Sid}
use Rattle.sec_desc.specs.Reading.{described}
use Rattle.sec_check.specs.declared.checking.Decided.{Decided}
use Rattle.scm_text.specs.Numbers.{has_bits, without_bits}

-- ## Identities

-- S-1-1-0
abbrev pub everyone : Sid
everyone = record { authority = 0 ∷ 0 ∷ 0 ∷ 0 ∷ 0 ∷ 1 ∷ []; parts = 0 ∷ [] }

-- S-1-5-32-544
abbrev pub administrators : Sid
administrators = record { authority = 0 ∷ 0 ∷ 0 ∷ 0 ∷ 0 ∷ 5 ∷ []; parts = 32 ∷ 544 ∷ [] }

-- S-1-5-32-545
abbrev pub users : Sid
users = record { authority = 0 ∷ 0 ∷ 0 ∷ 0 ∷ 0 ∷ 5 ∷ []; parts = 32 ∷ 545 ∷ [] }

abbrev pub group_of : Principal → Sid
group_of Admin = administrators
group_of User = users

abbrev pub same_sid : Sid → Sid → Bool
same_sid a b = bytes_eq a.authority b.authority && bytes_eq a.parts b.parts

-- whether the identity is one of the principal's
abbrev pub has_sid : Principal → Sid → Bool
has_sid principal sid = same_sid sid (group_of principal) || same_sid sid everyone

-- whether an entry counts: it isn't only to be inherited, and is of one of the principal's identities
abbrev pub counts : Principal → Ace → Bool
counts principal ace = bit_and ace.flags INHERIT_ONLY_ACE == 0 && has_sid principal ace.sid

-- ## Entries that count, in order

-- the bits whose first entry is an allow
unfoldable pub maximum : List Ace → ℕ
maximum [] = 0
maximum (ace ∷ aces) = if ace.deny then without_bits (maximum aces) ace.mask else bit_or ace.mask (maximum aces)

-- refused at the first deny that has a bit which no earlier allow gave, and if no allow gives a bit
unfoldable pub passes : ℕ → List Ace → Bool
passes left [] = left == 0
passes left (ace ∷ aces) = if ace.deny then bit_and left ace.mask == 0 && passes left aces else passes (without_bits left ace.mask) aces

-- the bits that the entries allow the principal
abbrev pub maximum_for : Principal → List Ace → ℕ
maximum_for principal aces = maximum (filter (counts principal) aces)

-- ## A list, or none

-- what the list allows of the rights that are asked for: all of them, or none; the maximum, if that is asked for
abbrev pub allowed_in : List Ace → ℕ → Option ℕ
allowed_in aces desired =
    if has_bits desired MAXIMUM_ALLOWED then Some (maximum aces) else if passes desired aces then Some desired else None

-- without a list all bits are allowed
abbrev pub allowed_by : Option (List Ace) → Principal → ℕ → Option ℕ
allowed_by None principal desired = Some (if has_bits desired MAXIMUM_ALLOWED then 0xFFFFFFFF else desired)
allowed_by (Some aces) principal desired = allowed_in (filter (counts principal) aces) desired

-- the list of a descriptor that was read; what can't be read allows nothing
abbrev pub list_read : Result Descriptor ℕ → Option (List Ace)
list_read (Ok d) = d.list
list_read (Err place) = Some []

-- the list of the bytes that are kept; there is none as long as nothing is set
abbrev pub list_of : List ℕ → Option (List Ace)
list_of [] = None
list_of (byte ∷ bytes) = list_read (described (byte ∷ bytes))

-- every bit that is allowed
abbrev pub maximum_by : Option (List Ace) → Principal → ℕ
maximum_by None principal = 0xFFFFFFFF
maximum_by (Some aces) principal = maximum_for principal aces

-- the entries that were read
abbrev pub aces_of : Result (List Ace) ℕ → List Ace
aces_of (Ok aces) = aces
aces_of (Err place) = []

-- ## How far entries have decided

-- with an entry more, which decides those of its bits that no earlier entry had
abbrev pub decided_after : Decided → Bool → ℕ → Decided
decided_after so_far deny mask = record {
  given = if deny then so_far.given else bit_or so_far.given (without_bits mask so_far.known);
  known = bit_or so_far.known mask;
}

-- with an entry more, if it counts
abbrev pub with_ace : Principal → Decided → Ace → Decided
with_ace principal so_far ace = if counts principal ace then decided_after so_far ace.deny ace.mask else so_far
