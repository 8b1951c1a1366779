use Rattle.scm_rules.specs.Controls.{controlled_if}
use Rattle.scm_tables.specs.Listed.{listed_as}
use Rattle.scm_tables.proofs.Bisecting.{changed_at, unchanged}
use Rattle.scm_tables.proofs.Changing.{number_of, controlled, controlled_elsewhere, controlled_here}
use Rattle.scm_tables.proofs.process_rows.control_in.Goals as goal

pub place_of-requires : goal.place_of-requires
place_of-requires c = rw c.as_slice.ensures.value c.requires.rising

pub returns-in_default-clause-rows : goal.returns-in_default-clause-rows
returns-in_default-clause-rows c =
    unchanged number_of c.args.number (listed_as (controlled_if c.args.limit c.args.number c.args.order))
    (controlled_elsewhere c.args.limit c.args.number c.args.order) c.as_slice.ensures.value c.in_default.ensures.none

pub returns-in-Some-clause-rows : goal.returns-in-Some-clause-rows
returns-in-Some-clause-rows c =
    rw (c.control_row.ensures, c.index_mut.ensures.value)
    (changed_at number_of c.args.number (listed_as (controlled_if c.args.limit c.args.number c.args.order))
    (controlled_elsewhere c.args.limit c.args.number c.args.order) (controlled c.args.limit c.args.order)
    (controlled_here c.args.limit c.args.number c.args.order) c.as_slice.ensures.value c.in-Some.ensures.within c.in-Some.ensures.found
    c.requires.rising c.index_mut.result.now)
