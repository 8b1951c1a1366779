use Rattle.std.proofs.Common.{arith}
use Rattle.scm_runs.proofs.Clear.{clear_begun}
use Rattle.scm_owed.proofs.Whole.{opened_owes}
use Rattle.scm_owed.proofs.Histories.{found_legal}
use Rattle.scm_owed.proofs.law_of_found_room.Goals as goal

pub returns : goal.returns
returns c =
    let none = opened_owes c.args.limits.now c.args.opening.now c.requires.begins in
    found_legal c.args.limits.now c.args.opening.now c.args.steps.now (clear_begun c.args.limits.now c.args.opening.now c.requires.begins)
    (omega (arith, none)) c.requires.made c.requires.room
