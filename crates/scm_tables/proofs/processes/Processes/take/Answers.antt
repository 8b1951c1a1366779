use Rattle.std.proofs.Common.{refl}
use Rattle.scm_rules.specs.Launches.{taken_if}
use Rattle.scm_tables.specs.Listed.{listed_as}
use Rattle.scm_tables.proofs.Changing.{number_of, numbered_map, taken_number}
use Rattle.scm_tables.proofs.Listing.{processes_changed, wanted_taken}
use Rattle.scm_tables.proofs.Rising.{ordered_map}
use Rattle.scm_tables.proofs.processes.Processes.take.Goals as goal

pub invariant_of-self : goal.invariant_of-self
invariant_of-self c =
    record {
      rising = rw c.take_in-self-inside.ensures.rows (ordered_map number_of _ (listed_as (taken_if c.args.number))
          (taken_number c.args.number) _ c.self.invariant.rising);
      numbered = rw c.take_in-self-inside.ensures.rows (numbered_map _ (taken_if c.args.number) (taken_number c.args.number) _
          c.self.invariant.numbered);
      owed = c.take_in-self-inside.ensures.owed;
    }

pub returns : goal.returns
returns c =
    rw (
      ← c.self.view_is,
      c.take_in-self-inside.ensures.rows,
      c.take_in-self-inside.ensures.capacity,
      processes_changed (taken_if c.args.number) c.self.inside.rows.items,
      wanted_taken c.args.number c.self.inside.rows.items,
    ) refl
