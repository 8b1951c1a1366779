use Rattle.scm_rules.specs.Reports.{released_if}
use Rattle.scm_tables.specs.Listed.{listed_as}
use Rattle.scm_tables.proofs.Bisecting.{changed_at, unchanged}
use Rattle.scm_tables.proofs.Changing.{number_of, released, released_elsewhere, released_here}
use Rattle.scm_tables.proofs.process_rows.release_in.Goals as goal

pub place_of-requires : goal.place_of-requires
place_of-requires c = rw c.as_slice.ensures.value c.requires

pub returns-in_default-clause-rows : goal.returns-in_default-clause-rows
returns-in_default-clause-rows c =
    unchanged number_of c.args.number (listed_as (released_if c.args.number c.args.service))
    (released_elsewhere c.args.number c.args.service) c.as_slice.ensures.value c.in_default.ensures.none

pub returns-in-Some-clause-rows : goal.returns-in-Some-clause-rows
returns-in-Some-clause-rows c =
    rw (c.release_row.ensures, c.index_mut.ensures.value)
    (changed_at number_of c.args.number (listed_as (released_if c.args.number c.args.service))
    (released_elsewhere c.args.number c.args.service) (released c.args.service)
    (released_here c.args.number c.args.service) c.as_slice.ensures.value c.in-Some.ensures.within c.in-Some.ensures.found
    c.requires c.index_mut.result.now)
