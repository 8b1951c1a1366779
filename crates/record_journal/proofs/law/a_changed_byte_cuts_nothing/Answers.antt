use Rattle.record_journal.proofs.Changed.{not_cut, upgraded_not_cut}
use Rattle.record_journal.proofs.law.a_changed_byte_cuts_nothing.Goals as goal

pub returns-clause-alone : goal.returns-clause-alone
returns-clause-alone c = not_cut

pub returns-clause-both : goal.returns-clause-both
returns-clause-both c = upgraded_not_cut
