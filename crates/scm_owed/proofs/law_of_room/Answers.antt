use Rattle.std.proofs.Common.{ap, arith}
use Rattle.scm_runs.proofs.Histories.{state_is}
use Rattle.scm_runs.proofs.Clear.{clear_begun}
use Rattle.scm_rules.specs.Owed.{owed}
use Rattle.scm_owed.proofs.Whole.{opened_owes, room_kept}
use Rattle.scm_owed.proofs.law_of_room.Goals as goal

pub returns : goal.returns
returns c =
    let l = c.args.limits.now in
    let f = c.args.opening.now in
    let es = c.args.steps.now in
    let none = opened_owes l f c.requires.begins in
    let rest = room_kept l f 0 0 es (clear_begun l f c.requires.begins) (omega (arith, none)) c.requires.legal c.requires.room in
    let same = ap owed (state_is l f es) in
    omega (arith, rest, same)
