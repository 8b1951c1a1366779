use Rattle.trail_text.proofs.Right.{exported, exported_count}
use Rattle.trail_text.proofs.law.histories_are_told.Goals as goal

pub returns-clause-exported : goal.returns-clause-exported
returns-clause-exported c = exported

pub returns-clause-count : goal.returns-clause-count
returns-clause-count c = exported_count
