-- Reading a text from left to right. A fault is the place of the first item that is wrong.
use Rattle.std.specs.Prelude.{◌≡◌, ℕ, zero, suc, Bool, true, false, not, ◌+◌, ◌*◌, ◌^◌, ◌&&◌, nat_lt, nat_le, List, [], ◌∷◌, ◌++◌}
use Rattle.std.specs.Prelude.{length, take, drop, Option, None, Some, is_some, unwrap_or, Result, Ok, Err, bytes_eq}
use Rattle.std.specs.Prelude.{bit_or, codes, if◌then◌else◌}
use Rattle.std.specs.Char.{digit_value}
use Rattle.std.specs.Int.{w32, to_be_bytes}
use Rattle.std.specs.List.{take_while}
use Rattle.std.specs.Str.Parse.{digits_value}
use Rattle.decimal_words.specs.Numbers.{number_below}
use Rattle.sec_desc.specs.declared.value.Ace.{Ace}
use Rattle.sec_desc.specs.declared.value.Sid.{Sid}
use Rattle.sec_desc.specs.declared.value.Descriptor.{Descriptor}
use Rattle.sec_desc.specs.Reading.{◌>>=◌}
use Rattle.sec_desc.specs.Writing.{size_of_ace}
use Rattle.sddl.specs.declared.fault.SddlFault.{SddlFault}
use Rattle.sddl.specs.declared.fault.SddlFault.TheVariants.{Bad, OutOfMemory}
use Rattle.sddl.specs.declared.reading.Head.{Head}
use Rattle.sddl.specs.declared.tables.Letters.{Letters}
use Rattle.sddl.specs.Tables.{access_rights, ace_flags, bit_named, known_by_letters, sid_of}

-- ## Places. What is read comes with the place where it ends

abbrev pub has_byte : ℕ → List ℕ → ℕ → Bool
has_byte byte text place = bytes_eq (byte ∷ []) (take 1 (drop place text))

abbrev pub after_byte : ℕ → List ℕ → ℕ → Result ℕ ℕ
after_byte byte text place = if has_byte byte text place then Ok (place + 1) else Err place

unfoldable pub after_bytes : List ℕ → List ℕ → ℕ → Result ℕ ℕ
after_bytes [] text place = Ok place
after_bytes (byte ∷ bytes) text place = after_byte byte text place >>= after_bytes bytes text

abbrev pub begins : List ℕ → List ℕ → ℕ → Bool
begins word text place = bytes_eq word (take (length word) (drop place text))

-- a value, or the place where it should stand
abbrev pub fits : {A : Type 0} → (place : ℕ) → Option A → Result A ℕ
fits place None = Err place
fits place (Some x) = Ok x

-- ## Numbers

abbrev pub is_digit : ℕ → ℕ → Bool
is_digit radix byte = nat_lt (digit_value byte) radix

-- the digits that begin at a place
unfoldable pub digits_at : ℕ → List ℕ → ℕ → List ℕ
digits_at radix text place = take_while (is_digit radix) (drop place text)

-- a decimal number of 32 bits
unfoldable pub number_at : List ℕ → ℕ → Result (ℕ × ℕ) ℕ
number_at text place = do
  n ← fits place (number_below (2 ^ 32) (digits_at 10 text place))
  Ok (n, place + length (digits_at 10 text place))

-- one to eight hexadecimal digits
unfoldable pub hex_number : List ℕ → Option ℕ
hex_number word = if nat_le 1 (length word) && nat_le (length word) 8 then Some (digits_value 16 word) else None

unfoldable pub hex_at : List ℕ → ℕ → Result (ℕ × ℕ) ℕ
hex_at text place = do
  n ← fits place (hex_number (digits_at 16 text place))
  Ok (n, place + length (digits_at 16 text place))

-- ## Bits

-- two letters that stand for a bit add it, as often as there are such
unfoldable pub bits_from : List Letters → (bits place : ℕ) → List ℕ → ℕ × ℕ
bits_from table bits place (a ∷ b ∷ rest) =
    if is_some (bit_named table (a ∷ b ∷ []))
    then bits_from table (bit_or bits (unwrap_or (bit_named table (a ∷ b ∷ [])) 0)) (place + 2) rest
    else (bits, place)
bits_from table bits place _ = (bits, place)

-- the bit of the two letters in front
abbrev pub front_bit : List Letters → List ℕ → Option ℕ
front_bit table (a ∷ b ∷ rest) = bit_named table (a ∷ b ∷ [])
front_bit table _ = None

abbrev pub bits_at : List Letters → List ℕ → ℕ → ℕ × ℕ
bits_at table text place = bits_from table 0 place (drop place text)

-- rights in hexadecimal, or in letters
unfoldable pub rights_at : List ℕ → ℕ → Result (ℕ × ℕ) ℕ
rights_at text place =
    if begins (codes "0x") text place then after_bytes (codes "0x") text place >>= hex_at text else Ok (bits_at access_rights text place)

-- ## Identities

abbrev pub hex_pair : List ℕ → Option ℕ
hex_pair (high ∷ low ∷ rest) = if is_digit 16 high && is_digit 16 low then Some (digit_value high * 16 + digit_value low) else None
hex_pair _ = None

-- two hexadecimal digits
unfoldable pub pair_at : List ℕ → ℕ → Result (ℕ × ℕ) ℕ
pair_at text place = fits place (hex_pair (drop place text)) >>= λ byte. Ok (byte, place + 2)

unfoldable pub six_bytes_at : List ℕ → ℕ → Result (List ℕ × ℕ) ℕ
six_bytes_at text place = do
  a ← pair_at text place
  b ← pair_at text a.1
  c ← pair_at text b.1
  d ← pair_at text c.1
  e ← pair_at text d.1
  f ← pair_at text e.1
  Ok (a.0 ∷ b.0 ∷ c.0 ∷ d.0 ∷ e.0 ∷ f.0 ∷ [], f.1)

-- six bytes in hexadecimal, or a decimal number of 32 bits
unfoldable pub authority_at : List ℕ → ℕ → Result (List ℕ × ℕ) ℕ
authority_at text place =
    if begins (codes "0x") text place
    then after_bytes (codes "0x") text place >>= six_bytes_at text
    else number_at text place >>= λ n. Ok (0 ∷ 0 ∷ to_be_bytes w32 n.0, n.1)

-- at most so many parts, each after a hyphen
unfoldable pub parts_from : ℕ → List ℕ → ℕ → Result (List ℕ × ℕ) ℕ
parts_from zero text place = if has_byte 45 text place then Err place else Ok ([], place)
parts_from (suc n) text place = if not (has_byte 45 text place) then Ok ([], place) else do
  first ← number_at text (place + 1)
  others ← parts_from n text first.1
  Ok (first.0 ∷ others.0, others.1)

unfoldable pub long_at : List ℕ → ℕ → Result (Sid × ℕ) ℕ
long_at text place = do
  authority ← authority_at text place
  parts ← parts_from 15 text authority.1
  Ok (record { authority = authority.0; parts = parts.0 }, parts.1)

unfoldable pub known_at : List ℕ → ℕ → Result (Sid × ℕ) ℕ
known_at text place = fits place (known_by_letters (take 2 (drop place text))) >>= λ it. Ok (sid_of it, place + 2)

unfoldable pub sid_at : List ℕ → ℕ → Result (Sid × ℕ) ℕ
sid_at text place =
    if begins (codes "S-1-") text place then after_bytes (codes "S-1-") text place >>= long_at text else known_at text place

-- ## Entries

abbrev pub kind_at : List ℕ → ℕ → Result (Bool × ℕ) ℕ
kind_at text place =
    if has_byte 65 text place then Ok (false, place + 1)
    else if has_byte 68 text place then Ok (true, place + 1)
    else Err place

-- what stands before an entry's identity
unfoldable pub head_at : List ℕ → ℕ → Result (Head × ℕ) ℕ
head_at text place = do
  begun ← after_byte 40 text place
  kind ← kind_at text begun
  told ← after_byte 59 text kind.1
  flagged ← after_byte 59 text (bits_at ace_flags text told).1
  rights ← rights_at text flagged
  end ← after_bytes (codes ";;;") text rights.1
  Ok (record { deny = kind.0; flags = (bits_at ace_flags text told).0; mask = rights.0 }, end)

abbrev pub with_sid : Head → Sid → Ace
with_sid head sid = record { deny = head.deny; flags = head.flags; mask = head.mask; sid = sid }

unfoldable pub ace_at : List ℕ → ℕ → Result (Ace × ℕ) ℕ
ace_at text place = do
  head ← head_at text place
  sid ← sid_at text head.1
  end ← after_byte 41 text sid.1
  Ok (with_sid head.0 sid.0, end)

-- the size of a list in bytes has to stay below 2^16
abbrev pub within : (size place : ℕ) → (Ace × ℕ) → Result (Ace × ℕ) ℕ
within size place found = if nat_lt (size + size_of_ace found.0) (2 ^ 16) then Ok found else Err place

-- an entry, after others that take this size
unfoldable pub ace_within : ℕ → List ℕ → ℕ → Result (Ace × ℕ) ℕ
ace_within size text place = ace_at text place >>= within size place

-- at most so many entries, after others that take this size
unfoldable pub aces_from : ℕ → (size : ℕ) → List ℕ → ℕ → Result (List Ace × ℕ) ℕ
aces_from zero size text place = Ok ([], place)
aces_from (suc n) size text place = if not (has_byte 40 text place) then Ok ([], place) else do
  first ← ace_within size text place
  others ← aces_from n (size + size_of_ace first.0) text first.1
  Ok (first.0 ∷ others.0, others.1)

-- more entries than 2^12 never have such a size
abbrev pub list_at : List ℕ → ℕ → Result (List Ace × ℕ) ℕ
list_at text place = aces_from 4096 8 text place

-- ## All of it

-- a part after its letter and a colon, if the letter is there
unfoldable pub part_at : {A : Type 0} → ℕ → (List ℕ → ℕ → Result (A × ℕ) ℕ) → List ℕ → ℕ → Result (Option A × ℕ) ℕ
part_at letter item text place = if not (has_byte letter text place) then Ok (None, place) else do
  begun ← after_bytes (letter ∷ 58 ∷ []) text place
  found ← item text begun
  Ok (Some found.0, found.1)

abbrev pub at_end : List ℕ → ℕ → Result ℕ ℕ
at_end text place = if nat_le (length text) place then Ok place else Err place

-- the descriptor that a text stands for, or the place of the first item that is wrong
unfoldable pub sddl_of : List ℕ → Result Descriptor ℕ
sddl_of text = do
  owner ← part_at 79 sid_at text 0
  group ← part_at 71 sid_at text owner.1
  list ← part_at 68 list_at text group.1
  end ← at_end text list.1
  Ok (record { owner = owner.0; group = group.0; list = list.0 })

-- the fault that reading meets, unless memory ran out
abbrev pub FailsAt : {Y : Type 0} → SddlFault → Result Y ℕ → Type 0
FailsAt (Bad place) read = read ≡ Err place
FailsAt OutOfMemory read = Unit {0}

-- what a function returned is what reading gives, unless memory ran out
abbrev pub ReadsAs : {X Y : Type 0} → (X → Y) → Result X SddlFault → Result Y ℕ → Type 0
ReadsAs view (Ok x) read = read ≡ Ok (view x)
ReadsAs view (Err fault) read = FailsAt fault read

-- the same after what was read before
abbrev pub onto : {A : Type 0} → List A → Result (List A × ℕ) ℕ → Result (List A × ℕ) ℕ
onto front read = read >>= λ others. Ok (front ++ others.0, others.1)

-- an item more was read, which ends at a place
abbrev pub IsItemRead : {A : Type 0} → List A → List A → Result ℕ SddlFault → Result (A × ℕ) ℕ → Type 0
IsItemRead {A} old new (Ok end) read = (x : A) × (read ≡ Ok (x, end)) × (new ≡ old ++ x ∷ [])
IsItemRead old new (Err fault) read = FailsAt fault read

-- the same of an entry that others before it leave room for
abbrev pub IsAceRead : ℕ → List Ace → List Ace → Result (ℕ × ℕ) SddlFault → Result (Ace × ℕ) ℕ → Type 0
IsAceRead size old new (Ok (grown, end)) read = (ace : Ace) × (read ≡ Ok (ace, end)) × (new ≡ old ++ ace ∷ [])
    × (grown ≡ size + size_of_ace ace)
IsAceRead size old new (Err fault) read = FailsAt fault read

abbrev pub nothing : Descriptor
nothing = record { owner = None; group = None; list = None }
