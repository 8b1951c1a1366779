use Rattle.scm_kept.proofs.Coded.{all_fit}
use Rattle.scm_kept.proofs.what_is_coded_fits.Goals as goal

pub returns : goal.returns
returns c = all_fit
