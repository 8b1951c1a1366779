use Rattle.rpc_pdu.specs.declared.pdu.End.TheVariants.{Server}
use Rattle.rpc_pdu.proofs.Settled.{settled}
use Rattle.rpc_pdu.proofs.reading.read_pdu.Goals as goal

pub returns-clause-settled : goal.returns-clause-settled
returns-clause-settled c = λ s more. settled Server c.args.bytes.now more s
