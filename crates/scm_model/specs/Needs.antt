-- Which services a service needs.
use Rattle.std.specs.Prelude.{ℕ, Bool, ◌==◌, ◌++◌, List, [], ◌∷◌, Option, None, Some, find, filter, map, if◌then◌else◌}
use Rattle.scm_text.specs.Fold.{same_text}
use Rattle.scm_text.specs.Numbers.{has}
use Rattle.scm_model.specs.declared.flat.Need.{Need}
use Rattle.scm_model.specs.declared.flat.Need.TheVariants as kinds
use Rattle.scm_model.specs.declared.flat.NeedRow.{NeedRow}

-- whether a service is one that is needed: it has the name, or it is a member of the group
abbrev pub meets : Need → List ℕ → List ℕ → Bool
meets (kinds.Service needed) name group = same_text name needed
meets (kinds.Group needed) name group = same_text group needed

abbrev pub is_met : Need → NeedRow → Bool
is_met need row = meets need row.name row.group

abbrev pub numbers_of : List NeedRow → List ℕ
numbers_of rows = map (λ (row : NeedRow). row.number) rows

-- the services that are meant by a need, in list order
abbrev pub met_by : List NeedRow → Need → List ℕ
met_by rows need = numbers_of (filter (is_met need) rows)

abbrev pub met_by_all : List NeedRow → List Need → List ℕ
met_by_all rows [] = []
met_by_all rows (need ∷ needs) = met_by rows need ++ met_by_all rows needs

abbrev pub row_needs : Option NeedRow → List Need
row_needs None = []
row_needs (Some row) = row.needs

-- the services that a service needs
abbrev pub needs_of : List NeedRow → ℕ → List ℕ
needs_of rows number = met_by_all rows (row_needs (find (λ (row : NeedRow). row.number == number) rows))

-- ## A row put in

abbrev pub instead : NeedRow → NeedRow → NeedRow
instead new row = if row.number == new.number then new else row

-- at the end, where the service has no row yet
abbrev pub added : List NeedRow → NeedRow → List NeedRow
added rows new = if has (numbers_of rows) new.number then [] else new ∷ []

-- the rows with one more, in place of the same service's
abbrev pub with_row : List NeedRow → NeedRow → List NeedRow
with_row rows new = map (instead new) rows ++ added rows new
