use Rattle.std.proofs.Common.{length, sym, ap, ◌∙◌, arith}
use Rattle.ndr_body.specs.Writing.{Draft}
use Rattle.scm_shapes.specs.Levels.{put_trigger_head}
use Rattle.scm_shapes.proofs.Grown.{all_more, all_done, each_fits, ends_trigger_head}
use Rattle.scm_shapes.proofs.levels_written.put_trigger_heads.Goals as goal

pub returns-in_err-put_trigger_head-clause-enough : goal.returns-in_err-put_trigger_head-clause-enough
returns-in_err-put_trigger_head-clause-enough c =
    let same = ap (λ (d : Draft). length d.bytes) c.loop-trigger.invariant.draft in
    λ le. let found = each_fits put_trigger_head ends_trigger_head c.args.triggers.now c.loop-trigger.trigger-index _
    c.loop-trigger.writer.draft c.loop-trigger.writer.space _ c.loop-trigger-test.true c.in_err-put_trigger_head.ensures.enough
    (omega (arith, le, same, c.loop-trigger.invariant.space)) in absurd cc

pub loop-trigger-preserved : goal.loop-trigger-preserved
loop-trigger-preserved c =
    let more = all_more put_trigger_head c.args.triggers.now c.loop-trigger.trigger-index _ c.loop-trigger.writer.draft
    c.loop-trigger-test.true in
    record {
      front = c.in_ok-put_trigger_head.ensures.front ∙ c.loop-trigger.invariant.front;
      draft = rw c.in_ok-put_trigger_head.ensures.ok (sym more ∙ c.loop-trigger.invariant.draft);
      space = omega (arith, c.in_ok-put_trigger_head.ensures.space, c.loop-trigger.invariant.space);
    }

pub returns-clause-ok : goal.returns-clause-ok
returns-clause-ok c = sym (all_done put_trigger_head c.args.triggers.now c.loop-trigger.trigger-index c.loop-trigger.writer.draft
    c.loop-trigger-test.false) ∙ c.loop-trigger.invariant.draft
