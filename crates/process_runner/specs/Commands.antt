-- The words of a command line.
use Rattle.std.specs.Prelude.{ℕ, ◌==◌, ◌&&◌, not, Bool, false, List, [], ◌∷◌, map, filter, length, encode_utf8_all, if◌then◌else◌}
use Rattle.std.specs.List.{slice_split}
use Rattle.std.specs.Char.Utf16.{utf16_lossy_chars}

-- a unit of a line, and whether it is a space outside of double quotes
pub record Placed : Type 0 where
  pub unit : ℕ
  pub is_outer_space : Bool

-- the units of a line; each quote opens the quotes or closes them
abbrev pub placed_from : Bool → List ℕ → List Placed
placed_from quoted [] = []
placed_from quoted (u ∷ line) =
    record { unit = u; is_outer_space = u == 32 && not quoted } ∷ placed_from (if u == 34 then not quoted else quoted) line

-- some unit is there
abbrev pub is_run : List Placed → Bool
is_run run = not (length run == 0)

-- a run without its quotes
abbrev pub unquoted : List Placed → List ℕ
unquoted run = filter (λ u. not (u == 34)) (map (λ placed. placed.unit) run)

-- the words of a line: its runs between spaces outside of double quotes, without their quotes
abbrev pub command_words : List ℕ → List (List ℕ)
command_words line = map unquoted (filter is_run (slice_split (λ placed. placed.is_outer_space) (placed_from false line)))

-- what units of UTF-16 spell, in UTF-8; a surrogate without its partner spells U+FFFD
abbrev pub utf8_of : List ℕ → List ℕ
utf8_of units = encode_utf8_all (utf16_lossy_chars units)
