use Rattle.std.proofs.Common.{length, ap, arith}
use Rattle.ndr_body.specs.Writing.{Draft}
use Rattle.scm_shapes.proofs.Pieces.{mark_fits}
use Rattle.scm_shapes.proofs.records.put_marks.Goals as goal

pub returns-in_err-put_mark-clause-enough : goal.returns-in_err-put_mark-clause-enough
returns-in_err-put_mark-clause-enough c =
    let same = ap (λ (d : Draft). length d.bytes) c.loop-mark.invariant.draft in
    let fits = mark_fits c.args.marks.now c.loop-mark.mark-index c.loop-mark.writer.draft c.loop-mark-test.true in
    λ le. let found = c.in_err-put_mark.ensures.enough (omega (arith, le, same, fits, c.loop-mark.invariant.space)) in absurd cc
