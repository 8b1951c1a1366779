use Rattle.std.proofs.lemmas.Result.{err_from_is_err_and}
use Rattle.service_record.specs.Reading.{take_items, take_trigger}
use Rattle.service_record.proofs.Loop.{goes_on, ends, is_done}
use Rattle.service_record.proofs.reading.triggers_of.Goals as goal

pub returns-in_err-trigger : goal.returns-in_err-trigger
returns-in_err-trigger c =
    let p = err_from_is_err_and c.from_residual.result c.from_residual.ensures.1 in
    rw (p.1, p.2) (ends take_trigger c.in_err-trigger.field-0.0 c.loop.triggers.items c.args.count c.loop.counter c.loop.rest.now
    (take_items take_trigger c.args.count c.args.bytes.now) c.loop-test.true c.in_err-trigger.ensures c.loop.invariant)

pub loop-preserved : goal.loop-preserved
loop-preserved c =
    rw c.in_ok-push.ensures.items (goes_on take_trigger c.loop.triggers.items c.args.count c.loop.counter c.loop.rest.now
    c.in_ok-trigger.trigger c.in_ok-trigger.after.now (take_items take_trigger c.args.count c.args.bytes.now) c.loop-test.true
    c.in_ok-trigger.ensures c.loop.invariant)

pub returns : goal.returns
returns c = is_done take_trigger c.loop.triggers.items c.args.count c.loop.counter c.loop.rest.now
    (take_items take_trigger c.args.count c.args.bytes.now) c.loop-test.false c.loop.invariant
