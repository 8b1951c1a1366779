use Rattle.scm_runs.proofs.Sound.{begun}
use Rattle.scm_history.proofs.Made.{opened_empty, opened_planless, stands_behind}
use Rattle.scm_history.proofs.who_is_not_made_is_not_named.Goals as goal

pub returns : goal.returns
returns c =
    stands_behind c.args.limits.now c.args.opening.now c.args.steps.now (begun c.args.limits.now c.args.opening.now c.requires.begins)
    (opened_empty c.args.limits.now c.args.opening.now c.requires.begins)
    (opened_planless c.args.limits.now c.args.opening.now c.requires.begins) c.requires.legal
