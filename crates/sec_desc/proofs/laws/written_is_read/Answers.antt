use Rattle.sec_desc.proofs.Back.{read_back}
use Rattle.sec_desc.proofs.laws.written_is_read.Goals as goal

pub returns : goal.returns
returns c = read_back
