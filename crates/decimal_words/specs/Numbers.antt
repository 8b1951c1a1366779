-- The number that a text is the decimal form of.
use Rattle.std.specs.Prelude.{ℕ, ◌^◌, ◌&&◌, nat_lt, List, Option, None, Some, option_and_then, bytes_eq, decimal, if◌then◌else◌}
use Rattle.std.specs.Str.Parse.{digits_value}

-- the number below 2^64 of which a text is the decimal form: it has no sign and no leading zero
unfoldable pub decimal_number : List ℕ → Option ℕ
decimal_number text =
    let number = digits_value 10 text in
    if nat_lt number (2 ^ 64) && bytes_eq text (decimal number) then Some number else None

-- the same of a number that has to be smaller yet
abbrev pub if_below : ℕ → ℕ → Option ℕ
if_below limit number = if nat_lt number limit then Some number else None

unfoldable pub number_below : ℕ → List ℕ → Option ℕ
number_below limit text = option_and_then (if_below limit) (decimal_number text)
