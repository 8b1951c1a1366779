use Rattle.std.proofs.Common.{◌<◌, subst}
use Rattle.std.specs.Prelude.{All}
use Rattle.std.proofs.lemmas.List.Elements.{All-map}
use Rattle.scm_model.specs.declared.flat.Process.{Process}
use Rattle.scm_tables.specs.Listed.{process_shown}
use Rattle.scm_tables.specs.Processed.{Processed}
use Rattle.scm_tables.proofs.processes.Processes.next.Goals as goal

pub returns-clause-above : goal.returns-clause-above
returns-clause-above c =
    subst (λ (t : Processed). All (λ (row : Process). row.number < t.next) t.processes) c.self.view_is
    (All-map (λ (row : Process). row.number < c.self.inside.next) process_shown _ c.self.invariant.rising.below)
