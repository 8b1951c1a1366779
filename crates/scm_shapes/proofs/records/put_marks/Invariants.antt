use Rattle.std.proofs.Common.{◌≡◌, ◌≤◌, drop}
use Rattle.scm_shapes.specs.Records.{put_marks}
use Rattle.scm_shapes.proofs.records.put_marks.Given as goal

abbrev pub invariant-loop-mark : goal.invariant-loop-mark
invariant-loop-mark l = record {
  front : l.writer.front ≡ l.fn.writer.front;
  draft : put_marks (drop l.mark-index l.marks) l.writer.draft ≡ put_marks l.marks l.fn.writer.draft;
  space : l.fn.writer.space ≤ l.writer.space;
}
