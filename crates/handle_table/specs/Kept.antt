-- What is always true of a table's fields.
use Rattle.std.specs.Prelude.{ℕ, ◌≡◌, ◌<◌, List, filter, length, min}
use Rattle.std.specs.List.{AllByRecursion}
use Rattle.scm_model.specs.declared.flat.HandleRow.{HandleRow}
use Rattle.handle_table.specs.Counted.{Counted, count}
use Rattle.handle_table.specs.Handled.{Handled, is_owned_by, is_row_of}
use Rattle.handle_table.specs.declared.table.HandleTable.TheInside.{Inside}

abbrev pub CountsServices : Counted → List HandleRow → Type 0
CountsServices counts rows = (service : ℕ) → count counts service ≡ length (filter (is_row_of service) rows)

abbrev pub CountsCallers : Counted → List HandleRow → Type 0
CountsCallers counts rows = (caller : ℕ) → count counts caller ≡ length (filter (is_owned_by caller) rows)

pub record IsKept (table : Inside) : Type 0 where
  pub services : CountsServices table.services table.rows.items
  pub callers : CountsCallers table.callers table.rows.items
  pub below : AllByRecursion (λ (row : HandleRow). row.number < table.next) table.rows.items

abbrev pub handled : Inside → Handled
handled table = record {
  rows = table.rows.items;
  next = table.next;
  spare = min table.rows.room (min table.services.room table.callers.room);
}
