use Rattle.std.proofs.Common.{List, ◌∙◌, ap, find}
use Rattle.scm_tables.specs.Listed.{processes_in}
use Rattle.scm_tables.specs.Offering.{offers_among}
use Rattle.scm_tables.specs.Processed.{Processed}
use Rattle.scm_tables.specs.declared.process_rows.ProcessRow.{ProcessRow}
use Rattle.scm_tables.proofs.processes.Processes.first_offering.Goals as goal

pub first_offering-requires-clause-rising : goal.first_offering-requires-clause-rising
first_offering-requires-clause-rising c = rw c.as_slice.ensures.value c.self.invariant.rising.rising

pub first_offering-requires-clause-some : goal.first_offering-requires-clause-some
first_offering-requires-clause-some c = rw c.as_slice.ensures.value c.self.invariant.numbered.listed

pub returns : goal.returns
returns c =
    let path = c.args.path.now in
    let rows = c.args.rows.now.services in
    c.first_offering.ensures
    ∙ ap (λ (rs : List ProcessRow). find (offers_among (processes_in rs) path) rows) c.as_slice.ensures.value
    ∙ ap (λ (t : Processed). find (offers_among t.processes path) rows) c.self.view_is
