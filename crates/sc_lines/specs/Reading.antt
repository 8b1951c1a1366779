-- What stands in the bytes of a reply. What is past their end counts as 0.
use Rattle.std.specs.Prelude.{ℕ, zero, suc, ◌+◌, ◌==◌, nat_lt, List, [], ◌∷◌, length, take, drop, slice_get, unwrap_or, if◌then◌else◌}
use Rattle.std.specs.Int.{w16, w32, from_le_bytes}

abbrev pub byte_at : List ℕ → ℕ → ℕ
byte_at bytes at = unwrap_or (slice_get bytes at) 0

-- a number of four bytes, the low one first
unfoldable pub u32_at : List ℕ → ℕ → ℕ
u32_at bytes at = from_le_bytes w32 (byte_at bytes at ∷ byte_at bytes (at + 1) ∷ byte_at bytes (at + 2) ∷ byte_at bytes (at + 3) ∷ [])

-- the unit of two bytes, the low one first
abbrev pub unit : ℕ → ℕ → ℕ
unit low high = from_le_bytes w16 (low ∷ high ∷ [])

-- the units before the first 0, or before the end
unfoldable pub units : List ℕ → List ℕ
units [] = []
units (low ∷ []) = []
units (low ∷ high ∷ bytes) = if unit low high == 0 then [] else unit low high ∷ units bytes

-- the text at a place; 0 is the place of none
unfoldable pub units_at : List ℕ → ℕ → List ℕ
units_at bytes at = if at == 0 then [] else units (drop at bytes)

-- the rows of a size at the front that are whole, at most so many of them
unfoldable pub rows : (size most : ℕ) → List ℕ → List (List ℕ)
rows size zero bytes = []
rows size (suc most) bytes = if nat_lt (length bytes) size then [] else take size bytes ∷ rows size most (drop size bytes)
