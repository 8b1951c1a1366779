use Rattle.std.proofs.Common.{◌∙◌, ap, refl, sym}
use Rattle.scm_rules.specs.Reports.{released_if}
use Rattle.scm_tables.specs.Listed.{listed_as}
use Rattle.scm_tables.specs.Processed.{owed_in}
use Rattle.scm_tables.proofs.Changing.{number_of, numbered_map, released_number, released_phase}
use Rattle.scm_tables.proofs.Counting.{owed_alone}
use Rattle.scm_tables.proofs.Listing.{processes_changed, wanted_released}
use Rattle.scm_tables.proofs.Rising.{ordered_map}
use Rattle.scm_tables.proofs.processes.Processes.release.Goals as goal

pub invariant_of-self : goal.invariant_of-self
invariant_of-self c =
    record {
      rising = rw c.release_in.ensures.rows (ordered_map number_of _ (listed_as (released_if c.args.number c.args.service))
          (released_number c.args.number c.args.service) _ c.self.invariant.rising);
      numbered = rw c.release_in.ensures.rows (numbered_map _ (released_if c.args.number c.args.service)
          (released_number c.args.number c.args.service) _ c.self.invariant.numbered);
      owed = c.self.invariant.owed ∙ sym (owed_alone (released_if c.args.number c.args.service)
          (released_phase c.args.number c.args.service) c.self.inside.rows.items) ∙ sym (ap owed_in c.release_in.ensures.rows);
    }

pub returns : goal.returns
returns c =
    rw (
      ← c.self.view_is,
      c.release_in.ensures.rows,
      c.release_in.ensures.capacity,
      processes_changed (released_if c.args.number c.args.service) c.self.inside.rows.items,
      wanted_released c.args.number c.args.service c.self.inside.rows.items,
    ) refl
