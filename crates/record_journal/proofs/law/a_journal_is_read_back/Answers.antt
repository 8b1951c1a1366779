use Rattle.record_journal.proofs.Back.{read_back, upgraded_back}
use Rattle.record_journal.proofs.law.a_journal_is_read_back.Goals as goal

pub returns-clause-alone : goal.returns-clause-alone
returns-clause-alone c = read_back

pub returns-clause-both : goal.returns-clause-both
returns-clause-both c = upgraded_back
