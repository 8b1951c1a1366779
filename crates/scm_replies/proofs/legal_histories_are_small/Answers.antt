use Rattle.scm_replies.proofs.Returned.{legal_small}
use Rattle.scm_replies.proofs.legal_histories_are_small.Goals as goal

pub returns : goal.returns
returns c = legal_small c.args.limits.now c.args.opening.now c.args.steps.now c.requires.few c.requires.low c.requires.legal
