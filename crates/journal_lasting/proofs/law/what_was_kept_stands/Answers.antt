use Rattle.journal_lasting.proofs.Standing.{kept_alone}
use Rattle.journal_lasting.proofs.law.what_was_kept_stands.Goals as goal

pub returns : goal.returns
returns c = kept_alone
