use Rattle.std.proofs.Common.{length, ap, arith}
use Rattle.ndr_body.specs.Writing.{Draft}
use Rattle.scm_shapes.proofs.Pieces.{text_fits}
use Rattle.scm_shapes.proofs.words.put_each.Goals as goal

pub returns-in_err-text-clause-enough : goal.returns-in_err-text-clause-enough
returns-in_err-text-clause-enough c =
    let same = ap (λ (d : Draft). length d.bytes) c.loop-text.invariant.draft in
    let fits = text_fits c.args.texts.now c.loop-text.text-index c.text-item.result c.loop-text.writer.draft c.loop-text-test.true
    c.text-item.is in
    λ le. let found = c.in_err-text.ensures.enough (omega (arith, le, same, fits, c.loop-text.invariant.space)) in absurd cc
