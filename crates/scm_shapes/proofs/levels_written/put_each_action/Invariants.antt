use Rattle.std.proofs.Common.{◌≡◌, ◌≤◌, drop}
use Rattle.scm_shapes.specs.Parts.{put_all}
use Rattle.scm_shapes.specs.Levels.{put_action}
use Rattle.scm_shapes.proofs.levels_written.put_each_action.Given as goal

abbrev pub invariant-loop-action : goal.invariant-loop-action
invariant-loop-action l = record {
  front : l.writer.front ≡ l.fn.writer.front;
  draft : put_all put_action (drop l.action-index l.actions) l.writer.draft ≡ put_all put_action l.actions l.fn.writer.draft;
  space : l.fn.writer.space ≤ l.writer.space;
}
