use Rattle.std.proofs.Common.{◌≡◌, drop}
use Rattle.scm_shapes.specs.Parts.{for_each_at}
use Rattle.scm_shapes.specs.Levels.{trigger_at}
use Rattle.scm_shapes.proofs.Loop.{with_front}
use Rattle.scm_shapes.proofs.levels.read_subtypes.Given as goal

abbrev pub invariant-loop-head : goal.invariant-loop-head
invariant-loop-head l = record {
  so_far : with_front l.triggers (for_each_at trigger_at
      (drop l.head-index l.heads) l.reader.body l.reader.place) ≡ for_each_at trigger_at l.heads l.fn.reader.body l.fn.reader.place;
  body : l.reader.body ≡ l.fn.reader.body;
}
