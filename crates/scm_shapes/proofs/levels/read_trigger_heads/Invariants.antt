use Rattle.std.proofs.Common.{◌≡◌, ◌-◌}
use Rattle.scm_shapes.specs.Levels.{trigger_head_at}
use Rattle.scm_shapes.specs.Each.{each_at}
use Rattle.scm_shapes.proofs.Loop.{with_front}
use Rattle.scm_shapes.proofs.levels.read_trigger_heads.Given as goal

abbrev pub invariant-loop : goal.invariant-loop
invariant-loop l = record {
  so_far : with_front l.heads (each_at trigger_head_at (l.count - l.counter) l.reader.body l.reader.place) ≡
      each_at trigger_head_at l.count l.fn.reader.body l.fn.reader.place;
  body : l.reader.body ≡ l.fn.reader.body;
}
