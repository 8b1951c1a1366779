-- Numbers in bytes, the low byte first. What is past the end counts as 0.
use Rattle.std.specs.Prelude.{ℕ, zero, suc, List, [], ◌∷◌, take, drop}
use Rattle.std.specs.Int.{w16, w32, from_le_bytes, to_le_bytes}

unfoldable pub number_16 : List ℕ → ℕ
number_16 bytes = from_le_bytes w16 (take 2 bytes)

unfoldable pub number_32 : List ℕ → ℕ
number_32 bytes = from_le_bytes w32 (take 4 bytes)

-- so many numbers of four bytes
unfoldable pub numbers_32 : ℕ → List ℕ → List ℕ
numbers_32 zero bytes = []
numbers_32 (suc n) bytes = number_32 bytes ∷ numbers_32 n (drop 4 bytes)

unfoldable pub bytes_16 : ℕ → List ℕ
bytes_16 n = to_le_bytes w16 n

unfoldable pub bytes_32 : ℕ → List ℕ
bytes_32 n = to_le_bytes w32 n
