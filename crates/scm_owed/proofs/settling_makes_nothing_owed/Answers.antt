use Rattle.scm_owed.proofs.Settling.{settles_owed}
use Rattle.scm_owed.proofs.settling_makes_nothing_owed.Goals as goal

pub returns : goal.returns
returns c = λ l f. settles_owed l f
