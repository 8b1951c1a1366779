use Rattle.scm_secured.specs.Opened.{LawOfSecurity}
use Rattle.scm_secured.proofs.Opened.{gives}
use Rattle.scm_runs.proofs.Along.{along}
use Rattle.scm_runs.proofs.Calls.{keeps}
use Rattle.scm_runs.proofs.Sound.{Sound, begun}
use Rattle.scm_secured.proofs.law_of_security.Goals as goal

pub returns : goal.returns
returns c =
    along Sound LawOfSecurity c.args.limits.now (keeps c.args.limits.now) (gives c.args.limits.now) c.args.opening.now c.args.steps.now
    (begun c.args.limits.now c.args.opening.now c.requires.begins) c.requires.legal
