use Rattle.scm_runs.proofs.Sound.{begun}
use Rattle.scm_history.proofs.Anew.{makes_anew}
use Rattle.scm_history.proofs.nobody_is_made_twice.Goals as goal

pub returns : goal.returns
returns c =
    makes_anew c.args.limits.now c.args.opening.now c.args.steps.now (begun c.args.limits.now c.args.opening.now c.requires.begins)
    c.requires.legal
