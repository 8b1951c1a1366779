use Rattle.rpc_session.proofs.Steps.{none_listed}
use Rattle.rpc_session.proofs.known.Known.new.Goals as goal

pub returns : goal.returns
returns c = none_listed c.new.result.items c.new.ensures.items
