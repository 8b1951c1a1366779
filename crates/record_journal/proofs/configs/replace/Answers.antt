use Rattle.std.proofs.Common.{◌∙◌, ap, sym}
use Rattle.record_table.specs.Recorded.{Recorded, change_at, with_config}
use Rattle.record_journal.specs.Services.{configs_of}
use Rattle.record_journal.proofs.ByName.{replaced_nowhere}
use Rattle.record_journal.proofs.Told.{configured}
use Rattle.record_journal.proofs.configs.replace.Goals as goal

pub returns-in_default-clause-ok : goal.returns-in_default-clause-ok
returns-in_default-clause-ok c = sym (replaced_nowhere c.args.config (configs_of c.args.table.now.services) (sym c.in_default.ensures.some))

pub returns-in-Ok-clause-ok : goal.returns-in-Ok-clause-ok
returns-in-Ok-clause-ok c =
    ap (λ (table : Recorded). configs_of table.services) c.replace.ensures.table
    ∙ ap (λ (table : Recorded). configs_of (change_at c.in-Some.number (with_config c.args.config) table.services)) c.in-Ok.ensures.ok
    ∙ configured c.args.table.now.services c.args.config c.in-Some.number c.in-Some.ensures.rising c.requires c.in-Some.ensures.number
