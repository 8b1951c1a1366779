use Rattle.scm_history.proofs.Kept.{law_of_kept}
use Rattle.scm_history.proofs.law_of_kept_changes.Goals as goal

pub returns : goal.returns
returns c = law_of_kept c.args.limits.now c.args.first.now
