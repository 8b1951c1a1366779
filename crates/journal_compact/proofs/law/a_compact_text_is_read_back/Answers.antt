use Rattle.journal_compact.proofs.Readback.{only_compact, read_compact}
use Rattle.journal_compact.proofs.law.a_compact_text_is_read_back.Goals as goal

pub returns-clause-back : goal.returns-clause-back
returns-clause-back c = read_compact

pub returns-clause-only : goal.returns-clause-only
returns-clause-only c = only_compact
