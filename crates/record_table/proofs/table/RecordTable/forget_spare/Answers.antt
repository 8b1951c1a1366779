use Rattle.record_table.proofs.Moving.{still_of}
use Rattle.record_table.proofs.table.RecordTable.forget_spare.Goals as goal

pub invariant_of-self : goal.invariant_of-self
invariant_of-self c = record {
  rising = c.self.invariant.rising;
  texts = still_of _ _ _ c.forget_room.ensures c.self.invariant.texts;
  processes = c.self.invariant.processes;
  room = c.self.invariant.room;
  spare = rw c.take.ensures.after tt;
}
