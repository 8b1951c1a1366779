use Rattle.std.proofs.Common.{◌∙◌, ap, is_some}
use Rattle.record_journal.proofs.ByName.{some_named}
use Rattle.record_journal.proofs.configs.number_of.Goals as goal

pub returns-clause-some : goal.returns-clause-some
returns-clause-some c = ap is_some c.by_name.ensures.number ∙ some_named c.args.name.now c.args.table.now.services
