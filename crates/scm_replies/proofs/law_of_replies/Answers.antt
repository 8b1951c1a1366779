use Rattle.scm_runs.proofs.Along.{along}
use Rattle.scm_runs.proofs.Clear.{Clear, clear_begun, clear_keeps}
use Rattle.scm_replies.specs.Replies.{LawOfReplies}
use Rattle.scm_replies.proofs.Steps.{gives}
use Rattle.scm_replies.proofs.law_of_replies.Goals as goal

pub returns : goal.returns
returns c =
    let l = c.args.limits.now in
    along (Clear l) (LawOfReplies l) l (clear_keeps l) (gives l) c.args.opening.now c.args.steps.now
    (clear_begun l c.args.opening.now c.requires.begins) c.requires.legal
