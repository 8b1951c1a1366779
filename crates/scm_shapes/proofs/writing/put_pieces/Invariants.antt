use Rattle.std.proofs.Common.{◌≡◌, ◌≤◌, drop, map}
use Rattle.scm_shapes.specs.Shapes.{value_of, put_values}
use Rattle.scm_shapes.proofs.writing.put_pieces.Given as goal

abbrev pub invariant-loop-piece : goal.invariant-loop-piece
invariant-loop-piece l = record {
  front : l.writer.front ≡ l.fn.writer.front;
  draft : put_values (map value_of (drop l.piece-index l.pieces)) l.writer.draft ≡ put_values (map value_of l.pieces) l.fn.writer.draft;
  space : l.fn.writer.space ≤ l.writer.space;
}
