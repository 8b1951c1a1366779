-- Lists of numbers, and the bits of a mask.
use Rattle.std.specs.Prelude.{ℕ, Bool, ◌==◌, ◌-◌, ◌^◌, List, eqb, bit_and}
use Rattle.std.specs.List.{list_any}

-- whether a number is in a list
abbrev pub has : List ℕ → ℕ → Bool
has numbers number = list_any (eqb number) numbers

-- whether the mask has each of the bits
abbrev pub has_bits : ℕ → ℕ → Bool
has_bits mask bits = bit_and mask bits == bits

-- the mask but for these bits
abbrev pub without_bits : ℕ → ℕ → ℕ
without_bits mask bits = bit_and mask (2 ^ 32 - 1 - bits)
