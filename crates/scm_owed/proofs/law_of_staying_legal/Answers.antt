use Rattle.std.proofs.Common.{arith}
use Rattle.scm_runs.proofs.Clear.{clear_begun}
use Rattle.scm_owed.proofs.Whole.{opened_owes}
use Rattle.scm_owed.proofs.Histories.{legal_none, stays_legal}
use Rattle.scm_owed.proofs.law_of_staying_legal.Goals as goal

pub returns-clause-nothing : goal.returns-clause-nothing
returns-clause-nothing c =
    let none = opened_owes c.args.limits.now c.args.opening.now c.requires.begins in
    legal_none c.args.limits.now c.args.opening.now (omega (arith, none))

pub returns-clause-stays : goal.returns-clause-stays
returns-clause-stays c =
    stays_legal c.args.limits.now c.args.opening.now c.args.steps.now (clear_begun c.args.limits.now c.args.opening.now c.requires.begins)
    c.requires.legal
