use Rattle.scm_runs.proofs.Along.{along}
use Rattle.scm_runs.proofs.Calls.{keeps}
use Rattle.scm_runs.proofs.Histories.{at_entry, legal_made}
use Rattle.scm_runs.proofs.Sound.{Sound, begun}
use Rattle.scm_history.specs.Begun.{LawOfBegun}
use Rattle.scm_history.proofs.Beginnings.{gives}
use Rattle.scm_history.proofs.a_plan_is_who_began_its.Goals as goal

pub returns : goal.returns
returns c =
    let l = c.args.limits.now in
    let f = c.args.opening.now in
    let es = c.args.steps.now in
    at_entry LawOfBegun l f es (along Sound LawOfBegun l (keeps l) (gives l) f es (begun l f c.requires.begins)
    (legal_made l f es c.requires.legal))
