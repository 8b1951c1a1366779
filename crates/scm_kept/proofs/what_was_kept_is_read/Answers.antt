use Rattle.scm_kept.proofs.ReadOn.{read_again, read_on}
use Rattle.scm_kept.proofs.ReadCut.{read_cut}
use Rattle.scm_kept.proofs.what_was_kept_is_read.Goals as goal

pub returns-clause-again : goal.returns-clause-again
returns-clause-again c = read_again

pub returns-clause-on : goal.returns-clause-on
returns-clause-on c = read_on

pub returns-clause-cut : goal.returns-clause-cut
returns-clause-cut c = read_cut
