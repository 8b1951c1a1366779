use Rattle.std.proofs.Common.{arith, refl}
use Rattle.record_table.proofs.table.RecordTable.new.Goals as goal

pub invariant_of-result : goal.invariant_of-result
invariant_of-result c = rw (c.new.ensures, c.new-3.ensures) (record {
  rising = tt;
  texts = c.new-2.ensures;
  processes = λ process. refl;
  room = omega arith;
  spare = tt;
})
