use Rattle.scm_kept.proofs.Opened.{of_opening}
use Rattle.scm_kept.proofs.openings_have_their_configurations.Goals as goal

pub returns : goal.returns
returns c = of_opening
