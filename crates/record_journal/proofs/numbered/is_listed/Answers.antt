use Rattle.std.proofs.Common.{◌∙◌}
use Rattle.record_journal.proofs.Rows.{listed_told}
use Rattle.record_journal.proofs.numbered.is_listed.Goals as goal

pub returns : goal.returns
returns c = c.is_some.ensures ∙ listed_told c.get.result c.args.table.now.services c.args.number c.get.ensures
