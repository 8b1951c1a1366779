use Rattle.scm_moves.proofs.Ticked.{each_done}
use Rattle.scm_moves.proofs.law_of_ticks.Goals as goal

pub returns : goal.returns
returns c = each_done c.args.limits.now c.args.opening.now c.args.steps.now
