use Rattle.std.proofs.Common.{◌≡◌, ◌≤◌, drop}
use Rattle.scm_shapes.specs.Parts.{put_all}
use Rattle.scm_shapes.specs.Levels.{put_trigger_head}
use Rattle.scm_shapes.proofs.levels_written.put_trigger_heads.Given as goal

abbrev pub invariant-loop-trigger : goal.invariant-loop-trigger
invariant-loop-trigger l = record {
  front : l.writer.front ≡ l.fn.writer.front;
  draft : put_all put_trigger_head (drop l.trigger-index l.triggers) l.writer.draft ≡ put_all put_trigger_head l.triggers
      l.fn.writer.draft;
  space : l.fn.writer.space ≤ l.writer.space;
}
