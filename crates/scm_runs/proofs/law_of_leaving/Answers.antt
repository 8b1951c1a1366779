use Rattle.scm_runs.specs.Creation.{LawOfCreation}
use Rattle.scm_runs.specs.Leaving.{LawOfLeaving}
use Rattle.scm_runs.proofs.Along.{along}
use Rattle.scm_runs.proofs.Calls.{keeps}
use Rattle.scm_runs.proofs.Created.{gives as gives_created}
use Rattle.scm_runs.proofs.Leaving.{gives as gives_leaving}
use Rattle.scm_runs.proofs.Sound.{Sound, begun}
use Rattle.scm_runs.proofs.law_of_leaving.Goals as goal

pub returns-clause-leaving : goal.returns-clause-leaving
returns-clause-leaving c =
    along Sound (LawOfLeaving c.args.limits.now) c.args.limits.now (keeps c.args.limits.now)
    (gives_leaving c.args.limits.now) c.args.opening.now c.args.steps.now
    (begun c.args.limits.now c.args.opening.now c.requires.begins) c.requires.legal

pub returns-clause-created : goal.returns-clause-created
returns-clause-created c =
    along Sound LawOfCreation c.args.limits.now (keeps c.args.limits.now)
    (gives_created c.args.limits.now) c.args.opening.now c.args.steps.now
    (begun c.args.limits.now c.args.opening.now c.requires.begins) c.requires.legal
