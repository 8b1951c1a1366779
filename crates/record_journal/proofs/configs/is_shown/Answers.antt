use Rattle.std.proofs.Common.{◌∙◌, ap, not}
use Rattle.record_journal.specs.Services.{configs_of}
use Rattle.record_journal.proofs.Begins.{displays_apart}
use Rattle.record_journal.proofs.ByName.{is_other, shown_is}
use Rattle.record_journal.proofs.configs.is_shown.Goals as goal

pub returns-in-Some : goal.returns-in-Some
returns-in-Some c =
    ap not c.same.ensures
    ∙ ap (is_other c.args.config.now) c.in-Some.ensures
    ∙ shown_is c.args.config.now c.args.table.now.services (displays_apart (configs_of c.args.table.now.services) c.requires)

pub returns-in-None : goal.returns-in-None
returns-in-None c =
    ap (is_other c.args.config.now) c.in-None.ensures
    ∙ shown_is c.args.config.now c.args.table.now.services (displays_apart (configs_of c.args.table.now.services) c.requires)
