use Rattle.scm_history.proofs.Outcomes.{law_of_outcomes}
use Rattle.scm_history.proofs.law_of_outcomes.Goals as goal

pub returns : goal.returns
returns c = law_of_outcomes c.args.limits.now c.args.first.now
