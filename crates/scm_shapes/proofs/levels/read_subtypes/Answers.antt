use Rattle.std.proofs.Common.{◌≡◌, ◌∷◌, ◌++◌, [], ◌∙◌}
use Rattle.std.proofs.lemmas.Result.{err_from_is_err_and}
use Rattle.scm_shapes.specs.Parts.{for_each_at}
use Rattle.scm_shapes.specs.Levels.{trigger_at}
use Rattle.scm_shapes.proofs.Loop.{for_goes_on, for_ends, for_done, pushed}
use Rattle.scm_shapes.proofs.levels.read_subtypes.Goals as goal

pub returns-in_err-trigger-clause-value : goal.returns-in_err-trigger-clause-value
returns-in_err-trigger-clause-value c =
    let p = err_from_is_err_and c.from_residual.result c.from_residual.ensures.1 in
    rw (p.1, p.2) (for_ends trigger_at c.loop-head.triggers c.args.heads.now c.loop-head.head-index _ c.loop-head.reader.body
    c.loop-head.reader.place (for_each_at trigger_at c.args.heads.now c.args.reader.now.body c.args.reader.now.place)
    c.in_err-trigger.field-0.0 c.loop-head-test.true c.in_err-trigger.ensures.value c.loop-head.invariant.so_far)

pub loop-head-preserved : goal.loop-head-preserved
loop-head-preserved c =
    let longer = pushed (c.push.new.self ≡ c.loop-head.triggers ++ c.in_ok-trigger.trigger ∷ []) c.push.result c.if-is_err.ensures.value
    c.push.ensures.ok in
    let read = for_goes_on trigger_at c.loop-head.triggers c.args.heads.now c.loop-head.head-index _ c.loop-head.reader.body
    c.loop-head.reader.place (for_each_at trigger_at c.args.heads.now c.args.reader.now.body c.args.reader.now.place)
    c.in_ok-trigger.trigger c.read_trigger.new.reader.place c.loop-head-test.true c.in_ok-trigger.ensures.value
    c.loop-head.invariant.so_far in
    record { so_far = rw (longer, c.in_ok-trigger.ensures.body) read; body = c.in_ok-trigger.ensures.body ∙ c.loop-head.invariant.body }

pub returns-clause-value : goal.returns-clause-value
returns-clause-value c = for_done trigger_at c.loop-head.triggers c.args.heads.now c.loop-head.head-index c.loop-head.reader.body
    c.loop-head.reader.place (for_each_at trigger_at c.args.heads.now c.args.reader.now.body c.args.reader.now.place) c.loop-head-test.false
    c.loop-head.invariant.so_far
