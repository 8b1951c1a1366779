use Rattle.sddl.proofs.Descriptors.{read_back}
use Rattle.sddl.proofs.laws.written_is_read.Goals as goal

pub returns : goal.returns
returns c = read_back
