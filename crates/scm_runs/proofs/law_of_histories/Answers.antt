use Rattle.scm_runs.proofs.Histories.{answers, states}
use Rattle.scm_runs.proofs.law_of_histories.Goals as goal

pub returns-clause-states : goal.returns-clause-states
returns-clause-states c = states c.args.limits.now c.args.first.now

pub returns-clause-answers : goal.returns-clause-answers
returns-clause-answers c = answers c.args.limits.now c.args.first.now
