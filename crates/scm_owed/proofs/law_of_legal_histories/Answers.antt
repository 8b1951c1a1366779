use Rattle.scm_owed.proofs.Histories.{law_of_legal}
use Rattle.scm_owed.proofs.law_of_legal_histories.Goals as goal

pub returns : goal.returns
returns c = law_of_legal c.args.limits.now c.args.first.now
