use Rattle.scm_runs.proofs.Along.{along}
use Rattle.scm_moves.proofs.Whole.{Whole, whole_begun, whole_keeps}
use Rattle.scm_notices.specs.Notices.{LawOfNotices}
use Rattle.scm_notices.proofs.Steps.{gives}
use Rattle.scm_notices.proofs.law_of_notices.Goals as goal

pub returns : goal.returns
returns c =
    let l = c.args.limits.now in
    along (Whole l) (LawOfNotices l) l (whole_keeps l) (gives l) c.args.opening.now c.args.steps.now
    (whole_begun l c.args.opening.now c.requires.begins)
    c.requires.legal
