use Rattle.sddl.proofs.Values.{told_writable}
use Rattle.sddl.proofs.reading.read_sddl.Goals as goal

pub returns-clause-writable : goal.returns-clause-writable
returns-clause-writable c = told_writable c.as_bytes.result.now c.sddl_of.result c.sddl_of.ensures
