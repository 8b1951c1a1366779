use Rattle.scm_runs.proofs.Along.{along}
use Rattle.scm_runs.proofs.Calls.{keeps}
use Rattle.scm_runs.proofs.Histories.{at_entry, legal_made}
use Rattle.scm_runs.proofs.Sound.{Sound, begun}
use Rattle.scm_answers.specs.Answering.{LawOfAnswering}
use Rattle.scm_answers.proofs.Calls.{of_refused}
use Rattle.scm_answers.proofs.Steps.{gives}
use Rattle.scm_answers.proofs.replies_answer_their_requests.Goals as goal

pub returns-clause-each_entry : goal.returns-clause-each_entry
returns-clause-each_entry c =
    let l = c.args.limits.now in
    let f = c.args.opening.now in
    let es = c.args.steps.now in
    at_entry LawOfAnswering l f es (along Sound LawOfAnswering l (keeps l) (gives l) f es (begun l f c.requires.begins)
    (legal_made l f es c.requires.legal))

pub returns-clause-refused : goal.returns-clause-refused
returns-clause-refused c = of_refused
