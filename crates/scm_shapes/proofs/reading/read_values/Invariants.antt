use Rattle.std.proofs.Common.{◌≡◌, drop, length}
use Rattle.scm_shapes.specs.Shapes.{values_at}
use Rattle.scm_shapes.proofs.Loop.{with_front}
use Rattle.scm_shapes.proofs.reading.read_values.Given as goal

abbrev pub invariant-loop-item : goal.invariant-loop-item
invariant-loop-item l = record {
  so_far : with_front l.values (values_at (drop l.item-index l.shape) l.reader.body l.reader.place) ≡
      values_at l.shape l.fn.reader.body l.fn.reader.place;
  body : l.reader.body ≡ l.fn.reader.body;
  count : length l.values ≡ l.item-index;
}
