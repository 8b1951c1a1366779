-- The services that are marked, by their numbers.
use Rattle.std.specs.Prelude.{ℕ, Bool, false, ◌==◌, List, Option, None, Some, filter, find, map}
use Rattle.scm_model.specs.declared.flat.HandleRow.{HandleRow}
use Rattle.scm_model.specs.declared.flat.Service.{Service}
use Rattle.scm_model.specs.Purge.{leaves}

abbrev pub has_mark : Service → Bool
has_mark row = row.marked

-- their numbers, in list order
abbrev pub marked_numbers : List Service → List ℕ
marked_numbers rows = map (λ (row : Service). row.number) (filter has_mark rows)

abbrev pub may_leave : List HandleRow → Option Service → Bool
may_leave handles None = false
may_leave handles (Some row) = leaves handles row

-- whether the service with a number leaves
abbrev pub number_leaves : List HandleRow → List Service → ℕ → Bool
number_leaves handles rows number = may_leave handles (find (λ (row : Service). row.number == number) rows)
