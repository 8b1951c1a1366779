use Rattle.scm_runs.proofs.Along.{along}
use Rattle.scm_runs.proofs.Calls.{keeps}
use Rattle.scm_runs.proofs.Sound.{Sound, begun}
use Rattle.scm_history.specs.Callers.{CallersStay}
use Rattle.scm_history.proofs.Callers.{gives, gone_for_good}
use Rattle.scm_history.proofs.callers_stay.Goals as goal

pub returns-clause-each_step : goal.returns-clause-each_step
returns-clause-each_step c =
    along Sound CallersStay c.args.limits.now (keeps c.args.limits.now) (gives c.args.limits.now) c.args.opening.now c.args.steps.now
    (begun c.args.limits.now c.args.opening.now c.requires.begins) c.requires.legal

pub returns-clause-for_good : goal.returns-clause-for_good
returns-clause-for_good c =
    gone_for_good c.args.limits.now c.args.opening.now c.args.steps.now
    (begun c.args.limits.now c.args.opening.now c.requires.begins) c.requires.legal
