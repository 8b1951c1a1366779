use Rattle.scm_runs.proofs.Along.{along}
use Rattle.scm_runs.proofs.Calls.{keeps}
use Rattle.scm_runs.proofs.Histories.{at_entry, legal_made}
use Rattle.scm_runs.proofs.Sound.{Sound, begun}
use Rattle.scm_history.specs.Shapes.{LawOfShapes}
use Rattle.scm_history.proofs.Shapes.{gives}
use Rattle.scm_history.proofs.answers_have_shapes.Goals as goal

pub returns : goal.returns
returns c =
    let l = c.args.limits.now in
    let f = c.args.opening.now in
    let es = c.args.steps.now in
    at_entry LawOfShapes l f es (along Sound LawOfShapes l (keeps l) (gives l) f es (begun l f c.requires.begins)
    (legal_made l f es c.requires.legal))
