use Rattle.std.proofs.Common.{◌∙◌, ap, sym}
use Rattle.record_table.specs.Recorded.{Recorded}
use Rattle.record_journal.specs.Services.{configs_of}
use Rattle.record_journal.proofs.ByName.{removed_nowhere}
use Rattle.record_journal.proofs.Told.{left_out}
use Rattle.record_journal.proofs.configs.remove.Goals as goal

pub returns-in-Some : goal.returns-in-Some
returns-in-Some c =
    ap (λ (table : Recorded). configs_of table.services) c.remove.ensures.table
    ∙ left_out c.args.table.now.services c.args.name.now c.in-Some.number c.in-Some.ensures.rising c.requires c.in-Some.ensures.number

pub returns-in_default : goal.returns-in_default
returns-in_default c = removed_nowhere c.args.name.now (configs_of c.args.table.now.services) (sym c.in_default.ensures.some)
