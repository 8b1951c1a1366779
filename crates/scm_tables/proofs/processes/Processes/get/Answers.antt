use Rattle.std.proofs.Common.{◌==◌, ◌∙◌, ap, find}
use Rattle.std.specs.Prelude.{option_map}
use Rattle.scm_model.specs.declared.flat.Process.{Process}
use Rattle.scm_tables.specs.Listed.{process_shown}
use Rattle.scm_tables.specs.Processed.{Processed}
use Rattle.scm_tables.specs.declared.process_rows.ProcessRow.{ProcessRow}
use Rattle.scm_tables.proofs.Changing.{found_shown}
use Rattle.scm_tables.proofs.processes.Processes.get.Goals as goal

pub returns : goal.returns
returns c =
    ap (option_map process_shown) (c.process_with.ensures ∙ ap (find (λ (row : ProcessRow). row.number == c.args.number))
    c.as_slice.ensures.value)
    ∙ found_shown c.args.number c.self.inside.rows.items
    ∙ ap (λ (t : Processed). find (λ (row : Process). row.number == c.args.number) t.processes) c.self.view_is
