use Rattle.std.proofs.Common.{◌≡◌, ◌≤◌, drop}
use Rattle.scm_shapes.specs.Parts.{put_all}
use Rattle.scm_shapes.specs.Levels.{put_subtype}
use Rattle.scm_shapes.proofs.levels_written.put_subtypes.Given as goal

abbrev pub invariant-loop-trigger : goal.invariant-loop-trigger
invariant-loop-trigger l = record {
  front : l.writer.front ≡ l.fn.writer.front;
  draft : put_all put_subtype (drop l.trigger-index l.triggers) l.writer.draft ≡ put_all put_subtype l.triggers l.fn.writer.draft;
  space : l.fn.writer.space ≤ l.writer.space;
}
