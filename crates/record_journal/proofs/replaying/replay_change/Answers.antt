use Rattle.std.proofs.Common.{sym, subst}
use Rattle.record_journal.specs.Opening.{CanBegin}
use Rattle.record_journal.proofs.Begins.{begins_with}
use Rattle.record_journal.proofs.Turns.{said_done, said_undone}
use Rattle.record_journal.proofs.replaying.replay_change.Goals as goal

pub returns-then-branch-clause-said : goal.returns-then-branch-clause-said
returns-then-branch-clause-said c =
    said_done c.args.form c.args.configs.now _ c.args.change (let a = c.in_ok-can_replay.ensures in let b = c.if-branch.true in cc)
    c.in_ok-apply.ensures.ok

pub returns-then-branch-clause-begins : goal.returns-then-branch-clause-begins
returns-then-branch-clause-begins c =
    λ _. subst CanBegin (sym c.in_ok-apply.ensures.ok)
    (begins_with c.args.configs.now c.args.change c.requires (let a = c.in_ok-can_replay.ensures in let b = c.if-branch.true in cc))

pub returns-clause-said : goal.returns-clause-said
returns-clause-said c =
    said_undone c.args.form c.args.configs.now c.args.configs.now c.args.change
    (let a = c.in_ok-can_replay.ensures in let b = c.if-branch.false in cc)
