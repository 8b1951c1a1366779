-- Words as texts of 16-bit units.
use Rattle.std.specs.Prelude.{ℕ, ◌==◌, List, Option, None, Some, if◌then◌else◌}
use Rattle.std.specs.List.{flat_map, list_any}
use Rattle.std.specs.Char.Escape.{encode_utf16}
use Rattle.std.specs.Str.{chars}

-- a text of UTF-8 in units of UTF-16
abbrev pub utf16_units : List ℕ → List ℕ
utf16_units text = flat_map encode_utf16 (chars text)

-- a word as a text, in which no unit is 0
unfoldable pub word_text : List ℕ → Option (List ℕ)
word_text word = if list_any (λ unit. unit == 0) (utf16_units word) then None else Some (utf16_units word)
