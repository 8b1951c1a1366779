use Rattle.scm_runs.proofs.Along.{along}
use Rattle.scm_moves.proofs.Whole.{Whole, whole_begun, whole_keeps}
use Rattle.scm_notices.specs.Events.{LawOfEvents}
use Rattle.scm_notices.proofs.Whole.{gives}
use Rattle.scm_notices.proofs.law_of_events.Goals as goal

pub returns : goal.returns
returns c =
    along (Whole c.args.limits.now) (LawOfEvents c.args.limits.now) c.args.limits.now (whole_keeps c.args.limits.now)
    (gives c.args.limits.now) c.args.opening.now c.args.steps.now
    (whole_begun c.args.limits.now c.args.opening.now c.requires.begins) c.requires.legal
