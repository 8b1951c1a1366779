-- The words of a line, and what a word can stand for.
use Rattle.std.specs.Prelude.{ℕ, ◌&&◌, ◌==◌, nat_le, Bool, List, Option, None, Some, if◌then◌else◌}
use Rattle.std.specs.List.{slice_split, list_any}
use Rattle.std.specs.Result.{result_ok}
use Rattle.hex.specs.Hex.{decode_of}
-- the number of which a text is the decimal form
pub use Rattle.decimal_words.specs.Numbers.{decimal_number as decimal_at}

-- the ? of the logic: the second step, if the first gave a value
infixl 10 ◌>>=◌
abbrev pub ◌>>=◌ : {A B : Type 0} → Option A → (A → Option B) → Option B
None >>= f = None
Some x >>= f = f x

-- the words of a line, between which one space stands
abbrev pub line_words : List ℕ → List (List ℕ)
line_words line = slice_split (λ b. b == 32) line

-- a letter in upper case
abbrev pub is_upper : ℕ → Bool
is_upper b = nat_le 65 b && nat_le b 90

-- the bytes that a text in lower case hexadecimal stands for
unfoldable pub hex_at : List ℕ → Option (List ℕ)
hex_at text = if list_any is_upper text then None else result_ok (decode_of text)
