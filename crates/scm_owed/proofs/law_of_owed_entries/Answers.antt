use Rattle.scm_runs.proofs.Along.{along}
use Rattle.scm_runs.proofs.Clear.{Clear, clear_begun, clear_keeps}
use Rattle.scm_owed.specs.Paying.{LawOfOwed}
use Rattle.scm_runs.proofs.Histories.{at_entry, legal_made}
use Rattle.scm_owed.proofs.Whole.{gives}
use Rattle.scm_owed.proofs.law_of_owed_entries.Goals as goal

pub returns : goal.returns
returns c =
    let l = c.args.limits.now in
    let f = c.args.opening.now in
    let es = c.args.steps.now in
    at_entry LawOfOwed l f es (along (Clear l) LawOfOwed l (clear_keeps l) (gives l) f es (clear_begun l f c.requires.begins)
    (legal_made l f es c.requires.legal))
