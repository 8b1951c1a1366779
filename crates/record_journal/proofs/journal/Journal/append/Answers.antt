use Rattle.record_journal.proofs.Standing.{lost, more, moves, moves_none}
use Rattle.record_journal.proofs.journal.Journal.append.Goals as goal

pub returns-in-Ok-put-clause-ok : goal.returns-in-Ok-put-clause-ok
returns-in-Ok-put-clause-ok g c =
    rw (c.in-Ok-put.ensures.ok, c.as_slice.ensures, c.in-Ok.ensures.bytes)
    (more _ _ _ _ (rw (← c.in-Ok.ensures.bytes, ← c.as_slice.ensures) c.in-Ok-put.ensures.bytes))

pub returns-in-Ok-put-clause-moments : goal.returns-in-Ok-put-clause-moments
returns-in-Ok-put-clause-moments g c =
    moves c.args.change.now c.args.self.now _ (g.K.Keeper.crashes c.args.keeper.now) (g.K.Keeper.crashes c.put.new.keeper)
    (rw (← c.in-Ok.ensures.bytes, ← c.as_slice.ensures) c.put.ensures.moments)

pub returns-clause-lost : goal.returns-clause-lost
returns-clause-lost g c = λ failed.
    rw c.in-Err.ensures.err (lost c.args.change.now _ _ _ _
    (rw (← c.in-Ok.ensures.bytes, ← c.as_slice.ensures) c.in-Err.ensures.bytes))

pub returns-clause-moments : goal.returns-clause-moments
returns-clause-moments g c =
    moves c.args.change.now c.args.self.now _ (g.K.Keeper.crashes c.args.keeper.now) (g.K.Keeper.crashes c.put.new.keeper)
    (rw (← c.in-Ok.ensures.bytes, ← c.as_slice.ensures) c.put.ensures.moments)

pub returns-in_default-clause-moments : goal.returns-in_default-clause-moments
returns-in_default-clause-moments g c =
    moves_none c.args.change.now c.args.self.now (g.K.Keeper.held c.args.keeper.now) (g.K.Keeper.crashes c.args.keeper.now)

pub returns-then-self-len-clause-moments : goal.returns-then-self-len-clause-moments
returns-then-self-len-clause-moments g c =
    moves_none c.args.change.now c.args.self.now (g.K.Keeper.held c.args.keeper.now) (g.K.Keeper.crashes c.args.keeper.now)
