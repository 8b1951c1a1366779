use Rattle.scm_runs.proofs.Sound.{begun}
use Rattle.scm_history.proofs.Made.{opened_empty}
use Rattle.scm_history.proofs.Own.{begins_at}
use Rattle.scm_history.proofs.its_joined_comes_first.Goals as goal

pub returns : goal.returns
returns c =
    begins_at c.args.limits.now c.args.opening.now c.args.steps.now (begun c.args.limits.now c.args.opening.now c.requires.begins)
    (opened_empty c.args.limits.now c.args.opening.now c.requires.begins) c.requires.legal
