use Rattle.std.proofs.Common.{◌==◌, ◌∙◌, ap, find, refl}
use Rattle.scm_model.specs.declared.flat.Process.{Process}
use Rattle.scm_tables.specs.Processed.{Processed}
use Rattle.scm_tables.proofs.Changing.{number_of, numbered_filter}
use Rattle.scm_tables.proofs.Listing.{processes_kept, wanted_kept}
use Rattle.scm_tables.proofs.Refusing.{absent_stays}
use Rattle.scm_tables.proofs.Rising.{ordered_filter}
use Rattle.scm_tables.proofs.processes.Processes.remove.Goals as goal

pub invariant_of-self : goal.invariant_of-self
invariant_of-self c =
    record {
      rising = rw c.drop_process-self-inside.ensures.rows (ordered_filter number_of _ _ _ c.self.invariant.rising);
      numbered = rw c.drop_process-self-inside.ensures.rows (numbered_filter _ _ _ c.self.invariant.numbered);
      owed = c.drop_process-self-inside.ensures.owed;
    }

pub returns-clause-left : goal.returns-clause-left
returns-clause-left c =
    rw (
      ← c.self.view_is,
      c.drop_process-self-inside.ensures.rows,
      c.drop_process-self-inside.ensures.capacity,
      processes_kept c.args.number c.self.inside.rows.items,
      wanted_kept c.args.number c.self.inside.rows.items,
    ) refl

pub returns-clause-absent : goal.returns-clause-absent
returns-clause-absent c = λ none.
    let absent = ap (λ (t : Processed). find (λ (row : Process). row.number == c.args.number) t.processes) c.self.view_is ∙ none in
    rw (
      ← c.self.view_is,
      c.drop_process-self-inside.ensures.rows,
      c.drop_process-self-inside.ensures.capacity,
      absent_stays c.args.number c.self.inside.rows.items absent,
    ) refl
