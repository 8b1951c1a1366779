-- Services in a listing.
use Rattle.std.specs.Prelude.{ℕ, List, [], ◌∷◌, ◌++◌, codes}
use Rattle.std.specs.List.{flat_map}
use Rattle.sc_lines.specs.Lines.{Field, Text, lines}
use Rattle.sc_lines.specs.Reading.{u32_at, rows, units_at}
use Rattle.sc_lines.specs.Statuses.{status_at, status_fields}

abbrev pub name_fields : (name display : List ℕ) → List Field
name_fields name display = Text (codes "SERVICE_NAME: ") name ∷ Text (codes "DISPLAY_NAME: ") display ∷ []

-- the offsets of the name and of the display name, and the status; and an empty line
abbrev pub entry_text : List ℕ → List ℕ → List ℕ
entry_text bytes row =
    lines (name_fields (units_at bytes (u32_at row 0)) (units_at bytes (u32_at row 4)))
    ++ (lines (status_fields (status_at row 8)) ++ codes "\n")

-- as many records as a reply says, as far as they are whole
unfoldable pub listing_text : (returned : ℕ) → List ℕ → List ℕ
listing_text returned bytes = flat_map (entry_text bytes) (rows 36 returned bytes)
