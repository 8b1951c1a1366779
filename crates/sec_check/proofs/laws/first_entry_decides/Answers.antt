use Rattle.sec_check.proofs.Masking.{first_decides, passes_by_bits}
use Rattle.sec_check.proofs.laws.first_entry_decides.Goals as goal

pub returns-clause-bits : goal.returns-clause-bits
returns-clause-bits c = first_decides

pub returns-clause-rights : goal.returns-clause-rights
returns-clause-rights c = passes_by_bits
