use Rattle.std.proofs.Common.{◌∙◌, ap}
use Rattle.scm_model.specs.declared.flat.Due.{Due}
use Rattle.scm_tables.specs.Firing.{starts_in, begins_plan}
use Rattle.scm_tables.specs.Tabled.{Tabled}
use Rattle.scm_tables.proofs.Permuted.{same_count}
use Rattle.scm_tables.proofs.tables.Tables.starts_due.Goals as goal

pub returns : goal.returns
returns c =
    c.starts_in.ensures ∙ same_count (λ (due : Due). begins_plan due.kind) c.self.inside.dues.rows c.as_slice.result.now c.as_slice.ensures
    ∙ ap (λ (t : Tabled). starts_in t.flat.dues) c.self.view_is
