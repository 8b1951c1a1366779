use Rattle.std.proofs.Common.{◌∙◌, ap}
use Rattle.scm_model.specs.declared.flat.Due.{Due}
use Rattle.scm_tables.specs.Firing.{commands_in, runs_command}
use Rattle.scm_tables.specs.Tabled.{Tabled}
use Rattle.scm_tables.proofs.Permuted.{same_count}
use Rattle.scm_tables.proofs.tables.Tables.commands_due.Goals as goal

pub returns : goal.returns
returns c =
    c.commands_in.ensures ∙ same_count (λ (due : Due). runs_command due.kind) c.self.inside.dues.rows c.as_slice.result.now
    c.as_slice.ensures ∙ ap (λ (t : Tabled). commands_in t.flat.dues) c.self.view_is
