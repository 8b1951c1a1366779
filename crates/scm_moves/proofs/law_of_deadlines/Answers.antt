use Rattle.scm_moves.proofs.Deadlines.{decides}
use Rattle.scm_moves.proofs.law_of_deadlines.Goals as goal

pub returns : goal.returns
returns c = decides c.args.limits.now c.args.opening.now c.args.steps.now c.requires.begins c.requires.legal
