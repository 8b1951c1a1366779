use Rattle.journal_disk.proofs.Telling.{synced}
use Rattle.journal_disk.proofs.memory.MemoryDiskDisk.sync.Goals as goal

pub returns-clause-syncs : goal.returns-clause-syncs
returns-clause-syncs c = synced c.args.self.now c.take.new.self c.take.result c.take.ensures.taken
