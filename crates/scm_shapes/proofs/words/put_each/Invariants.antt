use Rattle.std.proofs.Common.{◌≡◌, ◌≤◌, drop}
use Rattle.scm_shapes.specs.Each.{put_each}
use Rattle.scm_shapes.proofs.words.put_each.Given as goal

abbrev pub invariant-loop-text : goal.invariant-loop-text
invariant-loop-text l = record {
  front : l.writer.front ≡ l.fn.writer.front;
  draft : put_each (drop l.text-index l.texts) l.writer.draft ≡ put_each l.texts l.fn.writer.draft;
  space : l.fn.writer.space ≤ l.writer.space;
}
