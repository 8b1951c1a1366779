use Rattle.std.proofs.Common.{length, sym, ap, ◌∙◌, arith}
use Rattle.ndr_body.specs.Writing.{Draft}
use Rattle.scm_shapes.specs.Levels.{put_action}
use Rattle.scm_shapes.proofs.Grown.{all_more, all_done, each_fits, ends_action}
use Rattle.scm_shapes.proofs.levels_written.put_each_action.Goals as goal

pub returns-in_err-put_action-clause-enough : goal.returns-in_err-put_action-clause-enough
returns-in_err-put_action-clause-enough c =
    let same = ap (λ (d : Draft). length d.bytes) c.loop-action.invariant.draft in
    λ le. let found = each_fits put_action ends_action c.args.actions.now c.loop-action.action-index _ c.loop-action.writer.draft
    c.loop-action.writer.space _ c.loop-action-test.true c.in_err-put_action.ensures.enough
    (omega (arith, le, same, c.loop-action.invariant.space)) in absurd cc

pub loop-action-preserved : goal.loop-action-preserved
loop-action-preserved c =
    let more = all_more put_action c.args.actions.now c.loop-action.action-index _ c.loop-action.writer.draft c.loop-action-test.true in
    record {
      front = c.in_ok-put_action.ensures.front ∙ c.loop-action.invariant.front;
      draft = rw c.in_ok-put_action.ensures.ok (sym more ∙ c.loop-action.invariant.draft);
      space = omega (arith, c.in_ok-put_action.ensures.space, c.loop-action.invariant.space);
    }

pub returns-clause-ok : goal.returns-clause-ok
returns-clause-ok c = sym (all_done put_action c.args.actions.now c.loop-action.action-index c.loop-action.writer.draft
    c.loop-action-test.false) ∙ c.loop-action.invariant.draft
