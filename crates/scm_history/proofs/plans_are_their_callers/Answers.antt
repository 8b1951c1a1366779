use Rattle.scm_runs.proofs.Along.{along}
use Rattle.scm_runs.proofs.Calls.{keeps}
use Rattle.scm_runs.proofs.Sound.{Sound, begun}
use Rattle.scm_history.specs.Plans.{PlansAreTheirCallers}
use Rattle.scm_history.proofs.Ends.{ends_once}
use Rattle.scm_history.proofs.Plans.{gives}
use Rattle.scm_history.proofs.plans_are_their_callers.Goals as goal

pub returns-clause-each_step : goal.returns-clause-each_step
returns-clause-each_step c =
    along Sound PlansAreTheirCallers c.args.limits.now (keeps c.args.limits.now)
    (gives c.args.limits.now) c.args.opening.now c.args.steps.now
    (begun c.args.limits.now c.args.opening.now c.requires.begins) c.requires.legal

pub returns-clause-once : goal.returns-clause-once
returns-clause-once c =
    ends_once c.args.limits.now c.args.opening.now c.args.steps.now (begun c.args.limits.now c.args.opening.now c.requires.begins)
    c.requires.legal
