use Rattle.std.proofs.Common.{sym, ◌∙◌}
use Rattle.std.specs.Prelude.{option_copied}
use Rattle.scm_arms_secure.proofs.Written.{written_now}
use Rattle.scm_arms_secure.proofs.setting.set_security.Goals as goal

pub set_security-requires : goal.set_security-requires
set_security-requires c =
    written_now c.args.tables.now.flat c.args.caller c.args.handle c.args.parts c.args.bytes.now
    (option_copied c.held_secured-service.result) c.in-Some-Some.security c.held_secured-service.ensures.row
    c.held_secured-service.ensures.secured (sym c.in-Some-Some.is-1 ∙ c.requires.made)
