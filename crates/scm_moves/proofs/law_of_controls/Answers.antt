use Rattle.scm_runs.proofs.Along.{along}
use Rattle.scm_moves.specs.Controls.{LawOfControls}
use Rattle.scm_moves.proofs.Whole.{Whole, gives_controls, whole_begun, whole_keeps}
use Rattle.scm_moves.proofs.law_of_controls.Goals as goal

pub returns : goal.returns
returns c =
    along (Whole c.args.limits.now) (LawOfControls c.args.limits.now) c.args.limits.now (whole_keeps c.args.limits.now)
    (gives_controls c.args.limits.now) c.args.opening.now c.args.steps.now
    (whole_begun c.args.limits.now c.args.opening.now c.requires.begins) c.requires.legal
