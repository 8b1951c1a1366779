use Rattle.std.proofs.Common.{◌≡◌, ◌≤◌, ◌-◌}
use Rattle.scm_shapes.specs.Words.{put_referents}
use Rattle.scm_shapes.proofs.words.put_referents.Given as goal

abbrev pub invariant-loop : goal.invariant-loop
invariant-loop l = record {
  front : l.writer.front ≡ l.fn.writer.front;
  draft : put_referents (l.count - l.counter) l.writer.draft ≡ put_referents l.count l.fn.writer.draft;
  space : l.fn.writer.space ≤ l.writer.space;
}
