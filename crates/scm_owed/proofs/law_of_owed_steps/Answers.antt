use Rattle.scm_runs.proofs.Along.{along}
use Rattle.scm_runs.proofs.Clear.{Clear, clear_begun, clear_keeps}
use Rattle.scm_owed.specs.Paying.{LawOfOwed}
use Rattle.scm_owed.proofs.Whole.{gives}
use Rattle.scm_owed.proofs.law_of_owed_steps.Goals as goal

pub returns : goal.returns
returns c =
    along (Clear c.args.limits.now) LawOfOwed c.args.limits.now (clear_keeps c.args.limits.now)
    (gives c.args.limits.now) c.args.opening.now c.args.steps.now
    (clear_begun c.args.limits.now c.args.opening.now c.requires.begins) c.requires.legal
