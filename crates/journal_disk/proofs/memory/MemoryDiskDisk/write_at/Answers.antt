use Rattle.std.proofs.Common.{arith}
use Rattle.journal_disk.proofs.Telling.{not_written, wrote}
use Rattle.journal_disk.proofs.memory.MemoryDiskDisk.write_at.Goals as goal

pub returns-then-place-gt-MOST-clause-writes : goal.returns-then-place-gt-MOST-clause-writes
returns-then-place-gt-MOST-clause-writes c = not_written _ _ _ _ _ _ _ _ (grind arith) (grind arith)

pub returns-in-Err-clause-writes : goal.returns-in-Err-clause-writes
returns-in-Err-clause-writes c = not_written _ _ _ _ _ _ _ _ (grind arith) (grind arith)

pub returns-in-Succeeds-clause-writes : goal.returns-in-Succeeds-clause-writes
returns-in-Succeeds-clause-writes c =
    wrote c.args.self.now.first c.put_down.new.self.first c.args.self.now.past c.put_down.new.self.past _ _ _ c.take_fate-fate.result _
    (grind arith) (grind arith) c.requires (grind arith)

pub returns-in-Fails-clause-writes : goal.returns-in-Fails-clause-writes
returns-in-Fails-clause-writes c =
    wrote c.args.self.now.first c.fail-in-Fails.new.self.first c.args.self.now.past c.fail-in-Fails.new.self.past _ _ _
    c.take_fate-fate.result _ (grind arith) (grind arith) c.requires tt
