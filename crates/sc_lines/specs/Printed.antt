-- Texts of 16-bit units as they are printed.
use Rattle.std.specs.Prelude.{ℕ, List, map, unwrap_or}
use Rattle.std.specs.Char.Utf16.{utf16_chars}
use Rattle.std.specs.Str.{encode_utf8_all}

-- a text in UTF-8, with `?` for each unit that is no part of well-formed UTF-16
unfoldable pub printed : List ℕ → List ℕ
printed text = encode_utf8_all (map (λ c. unwrap_or c 63) (utf16_chars text))
