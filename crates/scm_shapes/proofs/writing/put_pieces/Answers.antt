use Rattle.std.proofs.Common.{length, sym, ap, ◌∙◌, arith}
use Rattle.ndr_body.specs.Writing.{Draft}
use Rattle.scm_shapes.proofs.Pieces.{piece_more, no_piece, piece_fits}
use Rattle.scm_shapes.proofs.writing.put_pieces.Goals as goal

pub returns-in_err-put_piece-clause-enough : goal.returns-in_err-put_piece-clause-enough
returns-in_err-put_piece-clause-enough c =
    let same = ap (λ (d : Draft). length d.bytes) c.loop-piece.invariant.draft in
    let fits = piece_fits c.args.pieces.now c.loop-piece.piece-index c.piece-item.result c.loop-piece.writer.draft c.loop-piece-test.true
    c.piece-item.is in
    λ le. let found = c.in_err-put_piece.ensures.enough (omega (arith, le, same, fits, c.loop-piece.invariant.space)) in absurd cc

pub loop-piece-preserved : goal.loop-piece-preserved
loop-piece-preserved c =
    let more = piece_more c.args.pieces.now c.loop-piece.piece-index c.piece-item.result c.loop-piece.writer.draft c.loop-piece-test.true
    c.piece-item.is in
    record {
      front = c.in_ok-put_piece.ensures.front ∙ c.loop-piece.invariant.front;
      draft = rw c.in_ok-put_piece.ensures.ok (sym more ∙ c.loop-piece.invariant.draft);
      space = omega (arith, c.in_ok-put_piece.ensures.space, c.loop-piece.invariant.space);
    }

pub returns-clause-ok : goal.returns-clause-ok
returns-clause-ok c = sym (no_piece c.args.pieces.now c.loop-piece.piece-index c.loop-piece.writer.draft c.loop-piece-test.false)
    ∙ c.loop-piece.invariant.draft
