use Rattle.std.proofs.Common.{◌≡◌, ◌-◌}
use Rattle.scm_shapes.specs.Levels.{action_at}
use Rattle.scm_shapes.specs.Each.{each_at}
use Rattle.scm_shapes.proofs.Loop.{with_front}
use Rattle.scm_shapes.proofs.levels.read_each_action.Given as goal

abbrev pub invariant-loop : goal.invariant-loop
invariant-loop l = record {
  so_far : with_front l.actions (each_at action_at (l.count - l.counter) l.reader.body l.reader.place) ≡ each_at
      action_at l.count l.fn.reader.body l.fn.reader.place;
  body : l.reader.body ≡ l.fn.reader.body;
}
