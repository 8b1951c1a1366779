use Rattle.scm_runs.proofs.Along.{along}
use Rattle.scm_runs.proofs.Calls.{keeps}
use Rattle.scm_runs.proofs.Histories.{at_entry, legal_made}
use Rattle.scm_runs.proofs.Sound.{Sound, begun}
use Rattle.scm_history.specs.Phases.{LawOfPhases}
use Rattle.scm_history.proofs.Phases.{gives}
use Rattle.scm_history.proofs.entries_leave_processes_so.Goals as goal

pub returns : goal.returns
returns c =
    let l = c.args.limits.now in
    let f = c.args.opening.now in
    let es = c.args.steps.now in
    at_entry LawOfPhases l f es (along Sound LawOfPhases l (keeps l) (gives l) f es (begun l f c.requires.begins)
    (legal_made l f es c.requires.legal))
