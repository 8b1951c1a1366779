use Rattle.std.proofs.Common.{refl}
use Rattle.scm_rules.specs.Launches.{launched_if}
use Rattle.scm_tables.specs.Listed.{listed_as}
use Rattle.scm_tables.proofs.Changing.{number_of, numbered_map, launched_number}
use Rattle.scm_tables.proofs.Listing.{processes_changed, wanted_launched}
use Rattle.scm_tables.proofs.Rising.{ordered_map}
use Rattle.scm_tables.proofs.processes.Processes.launch.Goals as goal

pub invariant_of-self : goal.invariant_of-self
invariant_of-self c =
    record {
      rising = rw c.launch_in-self-inside.ensures.rows (ordered_map number_of _ (listed_as (launched_if c.args.number c.args.pid))
          (launched_number c.args.number c.args.pid) _ c.self.invariant.rising);
      numbered = rw c.launch_in-self-inside.ensures.rows (numbered_map _ (launched_if c.args.number c.args.pid)
          (launched_number c.args.number c.args.pid) _ c.self.invariant.numbered);
      owed = c.launch_in-self-inside.ensures.owed;
    }

pub returns : goal.returns
returns c =
    rw (
      ← c.self.view_is,
      c.launch_in-self-inside.ensures.rows,
      c.launch_in-self-inside.ensures.capacity,
      processes_changed (launched_if c.args.number c.args.pid) c.self.inside.rows.items,
      wanted_launched c.args.number c.args.pid c.self.inside.rows.items,
    ) refl
