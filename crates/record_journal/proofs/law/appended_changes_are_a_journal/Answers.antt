use Rattle.record_journal.proofs.Growing.{grown}
use Rattle.record_journal.proofs.law.appended_changes_are_a_journal.Goals as goal

pub returns : goal.returns
returns c = grown
