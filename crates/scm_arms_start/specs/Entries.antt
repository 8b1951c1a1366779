-- What a start needs beforehand.
use Rattle.std.specs.Prelude.{ℕ, ◌==◌, List, [], Option, None, Some, if◌then◌else◌}
use Rattle.scm_model.specs.declared.flat.Flat.{Flat}
use Rattle.scm_model.specs.declared.flat.Service.{Service}
use Rattle.scm_model.specs.Rows.{held_service}
use Rattle.scm_rules.specs.Needs.{start_order}
use Rattle.scm_rules.specs.Start.{start_verdict}

-- the start order of a service that was found
abbrev pub order_for : Flat → Option Service → List ℕ
order_for f None = []
order_for f (Some row) = start_order f row.number

-- the start order of a start that isn't refused
abbrev pub start_entries : Flat → ℕ → ℕ → Option (List (List ℕ)) → List ℕ
start_entries f caller handle words =
    if start_verdict f caller handle words == 0 then order_for f (held_service f caller handle) else []
