use Rattle.journal_lasting.proofs.Standing.{left_alone, none_lost}
use Rattle.journal_lasting.proofs.law.what_never_failed_is_left_alone.Goals as goal

pub returns-clause-none : goal.returns-clause-none
returns-clause-none c = none_lost

pub returns-clause-alone : goal.returns-clause-alone
returns-clause-alone c = left_alone
