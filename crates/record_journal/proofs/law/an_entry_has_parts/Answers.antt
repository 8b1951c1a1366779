use Rattle.record_journal.proofs.Parts.{has_parts, switch_parts}
use Rattle.record_journal.proofs.law.an_entry_has_parts.Goals as goal

pub returns-clause-entry : goal.returns-clause-entry
returns-clause-entry c = has_parts

pub returns-clause-turn : goal.returns-clause-turn
returns-clause-turn c = switch_parts
