use Rattle.scm_rules.specs.Controls.{dequeued_if}
use Rattle.scm_tables.specs.Listed.{listed_as}
use Rattle.scm_tables.proofs.Bisecting.{changed_at, unchanged}
use Rattle.scm_tables.proofs.Changing.{number_of, relieved, relieved_elsewhere, relieved_here}
use Rattle.scm_tables.proofs.process_rows.relieve_in.Goals as goal

pub place_of-requires : goal.place_of-requires
place_of-requires c = rw c.as_slice.ensures.value c.requires

pub returns-in_default-clause-rows : goal.returns-in_default-clause-rows
returns-in_default-clause-rows c =
    unchanged number_of c.args.number (listed_as (dequeued_if c.args.number))
    (relieved_elsewhere c.args.number) c.as_slice.ensures.value c.in_default.ensures.none

pub returns-in-Some-clause-rows : goal.returns-in-Some-clause-rows
returns-in-Some-clause-rows c =
    rw (c.relieve_row.ensures, c.index_mut.ensures.value)
    (changed_at number_of c.args.number (listed_as (dequeued_if c.args.number)) (relieved_elsewhere c.args.number) relieved
    (relieved_here c.args.number) c.as_slice.ensures.value c.in-Some.ensures.within c.in-Some.ensures.found c.requires
    c.index_mut.result.now)
