use Rattle.record_journal.proofs.Restoring.{leaves_opened, opening_leaves, opening_stands}
use Rattle.std.specs.Prelude.{is_some}
use Rattle.record_journal.proofs.opening.open_journal.Goals as goal

pub returns-in-Ok-read_all-clause-leaves : goal.returns-in-Ok-read_all-clause-leaves
returns-in-Ok-read_all-clause-leaves g c =
    leaves_opened (is_some c.args.path) (g.K.Keeper.held c.args.keeper.now) _ _
    (g.K.Keeper.held c.restore.new.keeper) c.restore.result c.in-Ok.ensures.bytes c.in-Ok-read_all.ensures.same
    c.in-Ok-read_all.ensures.untold
    c.restore.ensures.leaves c.restore.ensures.untold

pub returns-in-Ok-read_all-clause-moments : goal.returns-in-Ok-read_all-clause-moments
returns-in-Ok-read_all-clause-moments g c =
    opening_leaves (is_some c.args.path) (g.K.Keeper.held c.args.keeper.now) (g.K.Keeper.held c.open_at.new.self)
    (g.K.Keeper.held c.read_all.new.self) (g.K.Keeper.crashes c.args.keeper.now) (g.K.Keeper.crashes c.open_at.new.self)
    (g.K.Keeper.crashes c.read_all.new.self) (g.K.Keeper.crashes c.restore.new.keeper) c.in-Ok.ensures.bytes
    c.in-Ok-read_all.ensures.same c.open_at.ensures.moments c.read_all.ensures.moments c.restore.ensures.moments

pub returns-in-Ok-read_all-clause-stands : goal.returns-in-Ok-read_all-clause-stands
returns-in-Ok-read_all-clause-stands g c =
    opening_stands c.restore.result _ _ (g.K.Keeper.held c.restore.new.keeper) (g.K.Keeper.settled c.restore.new.keeper)
    (g.K.Keeper.crashes c.restore.new.keeper) (g.K.Keeper.are_crashes c.restore.new.keeper)
    (c.restore.ensures.settled (c.in-Ok-read_all.ensures.settled c.in-Ok.ensures.settled))
