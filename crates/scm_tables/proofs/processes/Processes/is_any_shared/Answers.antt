use Rattle.std.proofs.Common.{◌∙◌, ap}
use Rattle.std.specs.List.{list_any}
use Rattle.scm_model.specs.declared.flat.Process.{Process}
use Rattle.scm_tables.specs.Processed.{Processed}
use Rattle.scm_tables.specs.declared.process_rows.ProcessRow.{ProcessRow}
use Rattle.scm_tables.proofs.Changing.{any_shared}
use Rattle.scm_tables.proofs.processes.Processes.is_any_shared.Goals as goal

pub returns : goal.returns
returns c =
    c.is_any_shared.ensures
    ∙ ap (list_any (λ (row : ProcessRow). row.shared)) c.as_slice.ensures.value
    ∙ any_shared c.self.inside.rows.items
    ∙ ap (λ (t : Processed). list_any (λ (row : Process). row.shared) t.processes) c.self.view_is
