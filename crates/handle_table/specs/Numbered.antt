-- Handles under their numbers, and the same in order.
use Rattle.std.specs.Prelude.{ℕ, ◌≡◌, List, [], ◌∷◌, Some, nat_eq, nat_le, if◌then◌else◌}
use Rattle.std.specs.List.{IsDistinct}
use Rattle.std.specs.Map.{keys_of, lookup}
use Rattle.scm_model.specs.declared.flat.HandleRow.{HandleRow}

-- each handle stands once, and under its own number
pub record AreNumbered (entries : List (ℕ × HandleRow)) : Type 0 where
  pub once : IsDistinct nat_eq (keys_of entries)
  pub own : (number : ℕ) (row : HandleRow) → lookup (nat_eq number) entries ≡ Some row → row.number ≡ number

-- a handle comes before those whose numbers aren't below its own
abbrev pub put_row : HandleRow → List HandleRow → List HandleRow
put_row row [] = row ∷ []
put_row row (other ∷ rows) = if nat_le row.number other.number then row ∷ other ∷ rows else other ∷ put_row row rows

-- the handles in order of number
abbrev pub ordered : List (ℕ × HandleRow) → List HandleRow
ordered [] = []
ordered (entry ∷ entries) = put_row entry.1 (ordered entries)
