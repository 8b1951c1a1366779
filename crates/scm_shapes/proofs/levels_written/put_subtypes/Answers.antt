use Rattle.std.proofs.Common.{length, sym, ap, ◌∙◌, arith}
use Rattle.ndr_body.specs.Writing.{Draft}
use Rattle.scm_shapes.specs.Levels.{put_subtype}
use Rattle.scm_shapes.proofs.Grown.{all_more, all_done, each_fits, ends_subtype}
use Rattle.scm_shapes.proofs.levels_written.put_subtypes.Goals as goal

pub returns-in_err-put_subtype-clause-enough : goal.returns-in_err-put_subtype-clause-enough
returns-in_err-put_subtype-clause-enough c =
    let same = ap (λ (d : Draft). length d.bytes) c.loop-trigger.invariant.draft in
    λ le. let found = each_fits put_subtype ends_subtype c.args.triggers.now c.loop-trigger.trigger-index _ c.loop-trigger.writer.draft
    c.loop-trigger.writer.space _ c.loop-trigger-test.true c.in_err-put_subtype.ensures.enough
    (omega (arith, le, same, c.loop-trigger.invariant.space)) in absurd cc

pub loop-trigger-preserved : goal.loop-trigger-preserved
loop-trigger-preserved c =
    let more = all_more put_subtype c.args.triggers.now c.loop-trigger.trigger-index _ c.loop-trigger.writer.draft c.loop-trigger-test.true
    in
    record {
      front = c.in_ok-put_subtype.ensures.front ∙ c.loop-trigger.invariant.front;
      draft = rw c.in_ok-put_subtype.ensures.ok (sym more ∙ c.loop-trigger.invariant.draft);
      space = omega (arith, c.in_ok-put_subtype.ensures.space, c.loop-trigger.invariant.space);
    }

pub returns-clause-ok : goal.returns-clause-ok
returns-clause-ok c = sym (all_done put_subtype c.args.triggers.now c.loop-trigger.trigger-index c.loop-trigger.writer.draft
    c.loop-trigger-test.false) ∙ c.loop-trigger.invariant.draft
