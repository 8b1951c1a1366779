use Rattle.std.proofs.Common.{◌∙◌, ap, refl, sym}
use Rattle.scm_rules.specs.Controls.{controlled_if}
use Rattle.scm_tables.specs.Listed.{listed_as}
use Rattle.scm_tables.specs.Processed.{owed_in}
use Rattle.scm_tables.proofs.Changing.{number_of, numbered_map, controlled_number, controlled_phase}
use Rattle.scm_tables.proofs.Counting.{owed_alone}
use Rattle.scm_tables.proofs.Listing.{processes_changed, wanted_controlled}
use Rattle.scm_tables.proofs.Rising.{ordered_map}
use Rattle.scm_tables.proofs.processes.Processes.control.Goals as goal

pub invariant_of-self : goal.invariant_of-self
invariant_of-self c =
    record {
      rising = rw c.control_in.ensures.rows (ordered_map number_of _ (listed_as (controlled_if c.args.limit c.args.number c.args.order))
          (controlled_number c.args.limit c.args.number c.args.order) _ c.self.invariant.rising);
      numbered = rw c.control_in.ensures.rows (numbered_map _ (controlled_if c.args.limit c.args.number c.args.order)
          (controlled_number c.args.limit c.args.number c.args.order) _ c.self.invariant.numbered);
      owed = c.self.invariant.owed ∙ sym (owed_alone (controlled_if c.args.limit c.args.number c.args.order)
          (controlled_phase c.args.limit c.args.number c.args.order) c.self.inside.rows.items) ∙ sym (ap owed_in c.control_in.ensures.rows);
    }

pub returns : goal.returns
returns c =
    rw (
      ← c.self.view_is,
      c.control_in.ensures.rows,
      c.control_in.ensures.capacity,
      processes_changed (controlled_if c.args.limit c.args.number c.args.order) c.self.inside.rows.items,
      wanted_controlled c.args.limit c.args.number c.args.order c.self.inside.rows.items,
    ) refl
