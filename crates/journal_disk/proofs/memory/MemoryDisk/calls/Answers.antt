use Rattle.std.proofs.Common.{◌∙◌, ap, sym, length}
use Rattle.journal_disk.proofs.Tearing.{past_length}
use Rattle.journal_disk.proofs.memory.MemoryDisk.calls.Goals as goal

pub returns-clause-len : goal.returns-clause-len
returns-clause-len c =
    rw (← c.self.view_is) (ap length c.deref.ensures.value ∙ sym (past_length c.self.inside.calls.items))
