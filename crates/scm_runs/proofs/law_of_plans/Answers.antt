use Rattle.scm_runs.specs.Entering.{LawOfEntering}
use Rattle.scm_runs.specs.Plans.{LawOfPlans}
use Rattle.scm_runs.proofs.Along.{along}
use Rattle.scm_runs.proofs.Calls.{keeps}
use Rattle.scm_runs.proofs.Entering.{gives as gives_entering}
use Rattle.scm_runs.proofs.Going.{gives as gives_plans}
use Rattle.scm_runs.proofs.Sound.{Sound, begun}
use Rattle.scm_runs.proofs.law_of_plans.Goals as goal

pub returns-clause-plans : goal.returns-clause-plans
returns-clause-plans c =
    along Sound (LawOfPlans c.args.limits.now) c.args.limits.now (keeps c.args.limits.now)
    (gives_plans c.args.limits.now) c.args.opening.now c.args.steps.now
    (begun c.args.limits.now c.args.opening.now c.requires.begins) c.requires.legal

pub returns-clause-entered : goal.returns-clause-entered
returns-clause-entered c =
    along Sound (LawOfEntering c.args.limits.now) c.args.limits.now (keeps c.args.limits.now)
    (gives_entering c.args.limits.now) c.args.opening.now c.args.steps.now
    (begun c.args.limits.now c.args.opening.now c.requires.begins) c.requires.legal
