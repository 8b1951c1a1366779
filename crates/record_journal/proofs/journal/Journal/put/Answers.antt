use Rattle.outside.specs.declared.Failed.{Failed}
use Rattle.record_journal.proofs.Moving.{put_whole}
use Rattle.record_journal.proofs.journal.Journal.put.Goals as goal

pub returns-clause-moments : goal.returns-clause-moments
returns-clause-moments g c =
    put_whole Failed c.args.self.now c.args.piece.now (g.K.Keeper.held c.args.keeper.now) (g.K.Keeper.held c.mend.new.keeper)
    (g.K.Keeper.crashes c.args.keeper.now) (g.K.Keeper.crashes c.mend.new.keeper) (g.K.Keeper.crashes c.add.new.keeper)
    c.in_ok-mend.ensures.bytes c.in_ok-mend.ensures.moments c.add.ensures.moments
