use Rattle.std.proofs.Common.{◌∙◌, sym}
use Rattle.trail_audit.proofs.Opened.{config_taken}
use Rattle.trail_audit.proofs.head.add_config.Goals as goal

pub returns-in_ok-list_config-in-Ok-true-clause-ok : goal.returns-in_ok-list_config-in-Ok-true-clause-ok
returns-in_ok-list_config-in-Ok-true-clause-ok c =
    let listed = c.in_ok-list_config-in-Ok-true.ensures in
    config_taken c.args.config c.args.start c.args.head.now c.list_config.new.head c.requires
    (sym c.in-Ok-true.ensures ∙ c.in-Ok-true.field-0-test) listed.stage listed.groups listed.configs listed.services
