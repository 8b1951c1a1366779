use Rattle.scmd_top.specs.Groups.{groups_in}
use Rattle.scmd_top.specs.Parts.{lent}
use Rattle.scmd_top.specs.Sides.{side}
use Rattle.record_journal.proofs.Standing.{settled_in}
use Rattle.scmd_top.proofs.Openings.{opens_empty_at}
use Rattle.scmd_top.proofs.opening.open_empty.Goals as goal

pub returns-in-Ok-new_manager-clause-opens : goal.returns-in-Ok-new_manager-clause-opens
returns-in-Ok-new_manager-clause-opens g c =
    opens_empty_at (side g.K.Keeper.held g.K.Keeper.faults c.args.keeper.now c.open_at.new.self)
    (groups_in (lent c.args.names)) c.args.moment c.in-Ok-new_manager.manager c.empty.result c.no_configs.result
    c.empty.ensures.value c.in-Ok.ensures.bytes c.in-Ok.ensures.cause.kept c.in-Ok-new_manager.ensures c.no_configs.ensures.none

pub returns-in-Ok-new_manager-clause-stands : goal.returns-in-Ok-new_manager-clause-stands
returns-in-Ok-new_manager-clause-stands g c =
    settled_in _ (g.K.Keeper.held c.open_at.new.self) (g.K.Keeper.settled c.open_at.new.self) (g.K.Keeper.crashes c.open_at.new.self)
    (g.K.Keeper.are_crashes c.open_at.new.self) c.in-Ok.ensures.settled
