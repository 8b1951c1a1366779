use Rattle.scm_runs.proofs.Histories.{legal_made}
use Rattle.scm_runs.proofs.Sound.{begun}
use Rattle.scm_kept.proofs.Runs.{unmarked_kept}
use Rattle.scm_kept.proofs.unmarked_configurations_are_kept.Goals as goal

pub returns : goal.returns
returns c =
    let l = c.args.limits.now in
    let f = c.args.opening.now in
    let es = c.args.steps.now in
    unmarked_kept l f es (begun l f c.requires.begins) (legal_made l f es c.requires.legal)
