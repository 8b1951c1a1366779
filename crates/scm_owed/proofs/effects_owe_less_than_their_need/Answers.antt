use Rattle.scm_owed.proofs.Effects.{debt_most, effects_owe}
use Rattle.scm_owed.proofs.effects_owe_less_than_their_need.Goals as goal

pub returns : goal.returns
returns c = λ l f step e. (effects_owe l f step e, λ valid. debt_most f step valid.due_once)
