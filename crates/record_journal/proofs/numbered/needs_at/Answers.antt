use Rattle.std.proofs.Common.{◌∙◌}
use Rattle.record_journal.proofs.Rows.{needs_nowhere, needs_there}
use Rattle.record_journal.proofs.numbered.needs_at.Goals as goal

pub returns-in-Some : goal.returns-in-Some
returns-in-Some c = c.as_slice.ensures ∙ needs_there c.args.table.now.services c.args.number c.in-Some.row.now c.in-Some.ensures

pub returns-in-None : goal.returns-in-None
returns-in-None c = needs_nowhere c.args.table.now.services c.args.number c.in-None.ensures
