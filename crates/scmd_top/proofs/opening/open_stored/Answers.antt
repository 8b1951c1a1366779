use Rattle.std.proofs.Common.{ℕ, List, true, Some, inr, refl, subst}
use Rattle.scmd_top.specs.Groups.{groups_in}
use Rattle.scmd_top.specs.Opening.{OpensJournal}
use Rattle.scmd_top.specs.Parts.{lent}
use Rattle.scmd_top.specs.Sides.{side}
use Rattle.scmd_top.proofs.Filed.{asks_so}
use Rattle.scmd_top.proofs.Openings.{opens_settled, opens_so, untouched_so}
use Rattle.scmd_top.proofs.opening.open_stored.Goals as goal

pub returns-clause-opens : goal.returns-clause-opens
returns-clause-opens g c =
    let e = c.open_manager.ensures in
    let keeper = side g.K.Keeper.held g.K.Keeper.faults c.args.keeper.now c.open_manager.new.keeper in
    subst (λ (groups : List (List ℕ)). OpensJournal true groups keeper c.args.moment c.open_manager.result) c.in-Ok.ensures
    (opens_so keeper c.in-Ok.groups c.args.moment c.open_manager.result e.comes e.opens e.unmoved e.bears e.cause e.kept)

pub returns-in_default-clause-opens : goal.returns-in_default-clause-opens
returns-in_default-clause-opens g c =
    untouched_so (side g.K.Keeper.held g.K.Keeper.faults c.args.keeper.now c.args.keeper.now)
    (groups_in (lent c.args.names)) c.args.moment refl

pub returns-clause-settled : goal.returns-clause-settled
returns-clause-settled g c =
    opens_settled (g.K.Keeper.settled c.args.keeper.now) (g.K.Keeper.faults c.args.keeper.now)
    (g.K.Keeper.faults c.open_manager.new.keeper) c.open_manager.result (g.K.Keeper.settled c.open_manager.new.keeper)
    c.open_manager.ensures.settled

pub returns-in_default-clause-settled : goal.returns-in_default-clause-settled
returns-in_default-clause-settled g c = λ was. inr was

pub returns-clause-asked : goal.returns-clause-asked
returns-clause-asked g c =
    asks_so (Some c.args.path.now) (g.K.Keeper.asked c.args.keeper.now) (g.K.Keeper.asked c.open_manager.new.keeper)
    c.open_manager.result c.open_manager.ensures.asked
