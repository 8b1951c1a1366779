use Rattle.scm_runs.proofs.Histories.{legal_made}
use Rattle.scm_runs.proofs.Sound.{begun}
use Rattle.scm_history.proofs.Owned.{lasts_once}
use Rattle.scm_history.proofs.own_entries_end.Goals as goal

pub returns : goal.returns
returns c =
    let l = c.args.limits.now in
    let f = c.args.opening.now in
    let es = c.args.steps.now in
    lasts_once l f es (begun l f c.requires.begins) (legal_made l f es c.requires.legal)
