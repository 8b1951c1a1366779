use Rattle.std.proofs.Common.{◌==◌, ◌∙◌, ap, find, refl, sym}
use Rattle.scm_model.specs.declared.flat.Process.{Process}
use Rattle.scm_rules.specs.Controls.{controls_in, dequeued_if, first_control}
use Rattle.scm_tables.specs.Listed.{listed_as}
use Rattle.scm_tables.specs.Processed.{Processed, owed_in}
use Rattle.scm_tables.proofs.Changing.{number_of, numbered_map, relieved_number, relieved_phase}
use Rattle.scm_tables.proofs.Counting.{owed_alone}
use Rattle.scm_tables.proofs.Listing.{processes_changed, wanted_relieved}
use Rattle.scm_tables.proofs.Refusing.{quiet_stays}
use Rattle.scm_tables.proofs.Rising.{ordered_map}
use Rattle.scm_tables.proofs.processes.Processes.dequeue_control.Goals as goal

pub invariant_of-self : goal.invariant_of-self
invariant_of-self c =
    record {
      rising = rw c.relieve_in.ensures.rows (ordered_map number_of _ (listed_as (dequeued_if c.args.number))
          (relieved_number c.args.number) _ c.self.invariant.rising);
      numbered = rw c.relieve_in.ensures.rows (numbered_map _ (dequeued_if c.args.number) (relieved_number c.args.number) _
          c.self.invariant.numbered);
      owed = c.self.invariant.owed ∙ sym (owed_alone (dequeued_if c.args.number) (relieved_phase c.args.number) c.self.inside.rows.items)
          ∙ sym (ap owed_in c.relieve_in.ensures.rows);
    }

pub returns-clause-left : goal.returns-clause-left
returns-clause-left c =
    rw (
      ← c.self.view_is,
      c.relieve_in.ensures.rows,
      c.relieve_in.ensures.capacity,
      processes_changed (dequeued_if c.args.number) c.self.inside.rows.items,
      wanted_relieved c.args.number c.self.inside.rows.items,
    ) refl

pub returns-clause-none : goal.returns-clause-none
returns-clause-none c = λ none.
    let quiet = ap (λ (t : Processed). first_control (controls_in (find (λ (row : Process). row.number == c.args.number) t.processes)))
    c.self.view_is ∙ none in
    rw (
      ← c.self.view_is,
      c.relieve_in.ensures.rows,
      c.relieve_in.ensures.capacity,
      quiet_stays c.args.number c.self.inside.rows.items c.self.invariant.rising.rising quiet,
    ) refl
