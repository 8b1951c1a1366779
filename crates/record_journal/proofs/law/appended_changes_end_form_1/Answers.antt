use Rattle.record_journal.proofs.Growing.{ended_first}
use Rattle.record_journal.proofs.law.appended_changes_end_form_1.Goals as goal

pub returns : goal.returns
returns c = ended_first
