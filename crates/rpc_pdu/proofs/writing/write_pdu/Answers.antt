use Rattle.rpc_pdu.specs.Pdu.{seen_pdu}
use Rattle.rpc_pdu.proofs.ReadBack.{read_back}
use Rattle.rpc_pdu.proofs.writing.write_pdu.Goals as goal

pub returns-clause-read_back : goal.returns-clause-read_back
returns-clause-read_back c = read_back (seen_pdu c.args.pdu.now) c.requires
