use Rattle.scm_runs.specs.Starts.{LawOfStarts}
use Rattle.scm_runs.proofs.Along.{along}
use Rattle.scm_runs.proofs.Calls.{keeps}
use Rattle.scm_runs.proofs.Starts.{gives}
use Rattle.scm_runs.proofs.Sound.{Sound, begun}
use Rattle.scm_runs.proofs.law_of_starts.Goals as goal

pub returns : goal.returns
returns c =
    along Sound (LawOfStarts c.args.limits.now) c.args.limits.now (keeps c.args.limits.now)
    (gives c.args.limits.now) c.args.opening.now c.args.steps.now
    (begun c.args.limits.now c.args.opening.now c.requires.begins) c.requires.legal
