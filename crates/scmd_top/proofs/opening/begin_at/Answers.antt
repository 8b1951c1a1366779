use Rattle.std.proofs.Common.{inr}
use Rattle.std.specs.Prelude.{is_some}
use Rattle.scmd_top.specs.Groups.{groups_in}
use Rattle.scmd_top.specs.Parts.{lent}
use Rattle.scmd_top.specs.Sides.{side}
use Rattle.scmd_top.proofs.Openings.{has_begun, lacks_more}
use Rattle.scmd_top.proofs.opening.begin_at.Goals as goal

pub returns-in-Ok-opening_with-clause-opens : goal.returns-in-Ok-opening_with-clause-opens
returns-in-Ok-opening_with-clause-opens g c =
    has_begun c.args.export (is_some c.args.path) (groups_in (lent c.args.names))
    (side g.K.Keeper.held g.K.Keeper.faults c.args.keeper.now c.open_at.new.keeper) c.args.moment _ _
    c.in-Ok.ensures.opens c.in-Ok.ensures.copied c.in-Ok-opening_with.ensures

pub returns-in-Err-opening_with-clause-opens : goal.returns-in-Err-opening_with-clause-opens
returns-in-Err-opening_with-clause-opens g c =
    lacks_more (is_some c.args.path) (groups_in (lent c.args.names))
    (side g.K.Keeper.held g.K.Keeper.faults c.args.keeper.now c.open_at.new.keeper) c.args.moment _ c.in-Ok.ensures.opens

pub returns-in-Err-opening_with-clause-settled : goal.returns-in-Err-opening_with-clause-settled
returns-in-Err-opening_with-clause-settled g c = λ was. inr c.in-Ok.ensures.settled
