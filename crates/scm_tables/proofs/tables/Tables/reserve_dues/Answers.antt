use Rattle.std.proofs.Common.{arith}
use Rattle.std.proofs.lemmas.Result.{on_ok_weaker}
use Rattle.scm_tables.proofs.Placed.{reserved}
use Rattle.scm_tables.proofs.tables.Tables.reserve_dues.Goals as goal

pub returns-clause-room : goal.returns-clause-room
returns-clause-room c =
    on_ok_weaker c.reserve.result (λ room. reserved c.self.inside.services.services c.reserve.new.self.rows c.reserve.new.self.capacity
    c.args.more (omega (arith, room))) c.reserve.ensures.ok
