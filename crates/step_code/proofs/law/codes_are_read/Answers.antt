use Rattle.step_code.proofs.Entries.{entry_again, entries_again}
use Rattle.step_code.proofs.Lengths.{code_within, length_code}
use Rattle.step_code.proofs.law.codes_are_read.Goals as goal

pub returns-clause-entry : goal.returns-clause-entry
returns-clause-entry c = entry_again

pub returns-clause-entries : goal.returns-clause-entries
returns-clause-entries c = entries_again

pub returns-clause-size : goal.returns-clause-size
returns-clause-size c = length_code

pub returns-clause-bound : goal.returns-clause-bound
returns-clause-bound c = code_within
