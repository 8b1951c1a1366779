use Rattle.std.proofs.Common.{arith}
use Rattle.std.specs.Prelude.{is_ok}
use Rattle.rpc_session.proofs.Steps.{resized}
use Rattle.rpc_session.proofs.known.widen.Goals as goal

pub returns-clause-same : goal.returns-clause-same
returns-clause-same c =
    resized c.args.table.now.items c.resize.new.self.items (is_ok c.resize.result) c.args.room _
    (omega (arith, c.if-room-len.false, c.len.ensures)) c.resize.ensures.items
