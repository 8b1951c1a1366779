-- What a change of a service makes of the needs.
use Rattle.std.specs.Prelude.{ℕ, List, Option, None, Some, if◌then◌else◌}
use Rattle.dependency_index.specs.Naming.{naming}
use Rattle.scm_model.specs.declared.flat.Config.{Config}
use Rattle.scm_model.specs.declared.flat.NeedRow.{NeedRow}
use Rattle.scm_model.specs.declared.flat.Service.{Service}
use Rattle.scm_model.specs.Needs.{numbers_of, with_row}
use Rattle.scm_rules.specs.Needs.{need_row_of, need_rows}
use Rattle.scm_text.specs.Numbers.{has}

-- a service that is there has the needs of another configuration
abbrev pub changed_needs : List NeedRow → ℕ → Config → List NeedRow
changed_needs rows number config = if has (numbers_of rows) number then with_row rows (need_row_of number config) else rows

-- how many services name a service as a need
abbrev pub naming_among : List Service → Option Service → ℕ
naming_among rows None = 0
naming_among rows (Some target) = naming (need_rows rows) target.config.name
