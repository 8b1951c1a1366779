use Rattle.std.proofs.lemmas.Result.{err_from_is_err_and}
use Rattle.step_code.specs.Reading.{items_at, trigger_at}
use Rattle.step_code.proofs.Loop.{goes_on, ends, is_done}
use Rattle.step_code.proofs.fields_read.triggers_of.Goals as goal

pub returns-in_err-trigger : goal.returns-in_err-trigger
returns-in_err-trigger c =
    let p = err_from_is_err_and c.from_residual.result c.from_residual.ensures.1 in
    rw (p.1, p.2) (ends trigger_at c.in_err-trigger.field-0.0 c.loop.triggers.items c.args.count c.loop.counter c.loop.rest.now
    (items_at trigger_at c.args.count c.args.bytes.now) c.loop-test.true c.in_err-trigger.ensures c.loop.invariant)

pub loop-preserved : goal.loop-preserved
loop-preserved c =
    rw c.in_ok-push.ensures.items (goes_on trigger_at c.loop.triggers.items c.args.count c.loop.counter c.loop.rest.now
    c.in_ok-trigger.trigger c.in_ok-trigger.after.now (items_at trigger_at c.args.count c.args.bytes.now) c.loop-test.true
    c.in_ok-trigger.ensures c.loop.invariant)

pub returns : goal.returns
returns c = is_done trigger_at c.loop.triggers.items c.args.count c.loop.counter c.loop.rest.now
    (items_at trigger_at c.args.count c.args.bytes.now) c.loop-test.false c.loop.invariant
