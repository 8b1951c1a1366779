use Rattle.std.specs.Prelude.{is_some}
use Rattle.scmd_top.specs.Groups.{groups_in}
use Rattle.scmd_top.specs.Parts.{lent}
use Rattle.scmd_top.proofs.Ends.{not_5}
use Rattle.scmd_top.proofs.world.World.over_keeper.Goals as goal

pub returns-clause-ran : goal.returns-clause-ran
returns-clause-ran g c =
    not_5 (g.C.Clock.tells c.args.self.clock) (is_some c.args.path) (groups_in (lent c.args.names)) c.args.job _ _ _ _
    c.run-status.ensures.run
