use Rattle.std.proofs.Common.{◌-◌, ◌+◌, length, sym, ap, ◌∙◌, arith}
use Rattle.ndr_body.specs.Writing.{Draft, put_referent}
use Rattle.scm_shapes.proofs.Widths.{grows_referents}
use Rattle.scm_shapes.proofs.Loop.{referent_more, no_referent}
use Rattle.scm_shapes.proofs.words.put_referents.Goals as goal

pub loop-preserved : goal.loop-preserved
loop-preserved c =
    let more = referent_more c.args.count c.loop.counter c.loop.writer.draft c.loop-test.true in
    let put = c.in_ok-referent.ensures.ok in
    record {
      front = c.in_ok-referent.ensures.front ∙ c.loop.invariant.front;
      draft = rw put (sym more ∙ c.loop.invariant.draft);
      space = omega (arith, c.in_ok-referent.ensures.space, c.loop.invariant.space);
    }

pub returns-clause-ok : goal.returns-clause-ok
returns-clause-ok c = sym (no_referent c.args.count c.loop.counter c.loop.writer.draft c.loop-test.false) ∙ c.loop.invariant.draft

pub returns-in_err-referent-clause-enough : goal.returns-in_err-referent-clause-enough
returns-in_err-referent-clause-enough c =
    let same = ap (λ (d : Draft). length d.bytes) c.loop.invariant.draft in
    let more = ap (λ (d : Draft). length d.bytes) (referent_more c.args.count c.loop.counter c.loop.writer.draft c.loop-test.true) in
    let fits = grows_referents (c.args.count - (c.loop.counter + 1)) (put_referent c.loop.writer.draft) in
    λ le. let found = c.in_err-referent.ensures.enough (omega (arith, le, same, more, fits, c.loop.invariant.space)) in absurd cc
