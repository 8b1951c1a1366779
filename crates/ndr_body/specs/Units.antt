-- Units of two bytes, the low byte first. What is past the end counts as 0.
use Rattle.std.specs.Prelude.{ℕ, zero, suc, List, [], ◌∷◌, take, drop}
use Rattle.std.specs.Int.{w16, from_le_bytes}

unfoldable pub half : List ℕ → ℕ
half bytes = from_le_bytes w16 (take 2 bytes)

-- some units
unfoldable pub le_units : ℕ → List ℕ → List ℕ
le_units zero bytes = []
le_units (suc n) bytes = half bytes ∷ le_units n (drop 2 bytes)
