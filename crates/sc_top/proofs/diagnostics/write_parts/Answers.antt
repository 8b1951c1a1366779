use Rattle.std.proofs.Common.{◌∙◌}
use Rattle.sc_top.specs.Diagnostics.{joined}
use Rattle.sc_top.proofs.Writing.{piece_sent, piece_failed, pieces_sent}
use Rattle.sc_top.proofs.diagnostics.write_parts.Goals as goal

pub loop-part-preserved : goal.loop-part-preserved
loop-part-preserved g c = (
  piece_sent (λ part. part.now) c.args.parts.now c.loop-part.part-index _ _ _ _ c.loop-part-test.true c.loop-part.invariant.0
      c.in-Ok.ensures.written,
  c.in-Ok.ensures.cause.kept ∙ c.loop-part.invariant.1,
)

pub returns-in-Err-clause-written : goal.returns-in-Err-clause-written
unfolding joined
returns-in-Err-clause-written g c =
    piece_failed (λ part. part.now) c.args.parts.now c.loop-part.part-index _ _ _ _ c.loop-part-test.true c.loop-part.invariant.0
    c.in-Err.ensures.written

pub returns-clause-written : goal.returns-clause-written
unfolding joined
returns-clause-written g c = pieces_sent (λ part. part.now) c.args.parts.now c.loop-part.part-index _ _ c.loop-part-test.false
    c.loop-part.invariant.0
