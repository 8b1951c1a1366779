use Rattle.scm_runs.proofs.Along.{along}
use Rattle.scm_runs.proofs.Calls.{keeps}
use Rattle.scm_runs.proofs.Sound.{Sound, begun}
use Rattle.scm_history.specs.Once.{AllAreGivenOnce}
use Rattle.scm_history.proofs.Once.{gives, none_again}
use Rattle.scm_history.proofs.numbers_are_never_given_again.Goals as goal

pub returns-clause-each_step : goal.returns-clause-each_step
returns-clause-each_step c =
    along Sound AllAreGivenOnce c.args.limits.now (keeps c.args.limits.now) (gives c.args.limits.now) c.args.opening.now c.args.steps.now
    (begun c.args.limits.now c.args.opening.now c.requires.begins) c.requires.legal

pub returns-clause-for_good : goal.returns-clause-for_good
returns-clause-for_good c = none_again c.args.limits.now c.args.opening.now c.args.steps.now
    (begun c.args.limits.now c.args.opening.now c.requires.begins) c.requires.legal
