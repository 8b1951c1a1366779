use Rattle.std.proofs.Common.{◌∙◌, sym}
use Rattle.record_journal.proofs.Begins.{begins_empty}
use Rattle.record_journal.proofs.Turns.{reads_first, same_reads}
use Rattle.record_journal.proofs.replaying.read_journal.Goals as goal

pub returns-then-is_part_header-clause-begins : goal.returns-then-is_part_header-clause-begins
returns-then-is_part_header-clause-begins c = rw c.new.ensures begins_empty

pub returns-then-starts_with-2-clause-reads : goal.returns-then-starts_with-2-clause-reads
returns-then-starts_with-2-clause-reads c =
    same_reads c.replay_entries-then-starts_with-2.result _ _
    (reads_first c.args.bytes.now (sym c.is_part_header.ensures ∙ c.if-is_part_header.false)
    (sym c.starts_with.ensures.value ∙ c.if-starts_with.false) (sym c.starts_with-2.ensures.value ∙ c.if-starts_with-2.true))
    c.replay_entries-then-starts_with-2.ensures.reads
