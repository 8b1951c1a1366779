use Rattle.scm_history.proofs.Owned.{law_of_own}
use Rattle.scm_history.proofs.law_of_own_entries.Goals as goal

pub returns : goal.returns
returns c = law_of_own c.args.limits.now c.args.first.now
