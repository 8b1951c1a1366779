-- What contracts see of a table of handles.
use Rattle.std.specs.Prelude.{ℕ, Bool, ◌&&◌, ◌==◌, List}
use Rattle.scm_model.specs.declared.flat.HandleRow.{HandleRow}
use Rattle.scm_model.specs.Rows.{is_of_service}

-- the rows in order of number, the number that is given next, and for how many rows more there is room
pub record Handled : Type 0 where
  pub rows : List HandleRow
  pub next : ℕ
  pub spare : ℕ

abbrev pub matches : ℕ → HandleRow → Bool
matches number row = row.number == number

abbrev pub is_owned_by : ℕ → HandleRow → Bool
is_owned_by caller row = row.caller == caller

abbrev pub is_handle : ℕ → ℕ → HandleRow → Bool
is_handle caller number row = row.caller == caller && row.number == number

abbrev pub is_row_of : ℕ → HandleRow → Bool
is_row_of service row = is_of_service service row.kind
