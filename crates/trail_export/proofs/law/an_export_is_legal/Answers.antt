use Rattle.trail_export.proofs.Legal.{tells}
use Rattle.trail_export.proofs.law.an_export_is_legal.Goals as goal

pub returns : goal.returns
returns c = λ o h small can legal readable. tells o h small can legal readable
