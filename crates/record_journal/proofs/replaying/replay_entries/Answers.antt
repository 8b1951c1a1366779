use Rattle.record_journal.proofs.Begins.{begins_empty}
use Rattle.record_journal.proofs.replaying.replay_entries.Goals as goal

pub replay_over-replay-requires : goal.replay_over-replay-requires
replay_over-replay-requires c = rw c.in-Ok.ensures begins_empty
