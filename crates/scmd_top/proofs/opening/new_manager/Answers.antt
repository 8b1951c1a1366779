use Rattle.std.proofs.Common.{subst, sym}
use Rattle.scm_rules.specs.Opening.{CanOpen}
use Rattle.scm_core.proofs.Opened.{opens_with_nothing}
use Rattle.scmd_top.proofs.opening.new_manager.Goals as goal

pub new-requires-2-clause-configs : goal.new-requires-2-clause-configs
new-requires-2-clause-configs c = subst (CanOpen _) (sym c.new.ensures) (opens_with_nothing _)
