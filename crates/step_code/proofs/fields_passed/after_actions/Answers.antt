use Rattle.step_code.specs.Reading.{action_at}
use Rattle.step_code.proofs.Passed.{items_end, items_on}
use Rattle.step_code.proofs.fields_passed.after_actions.Goals as goal

pub loop-preserved : goal.loop-preserved
loop-preserved c =
    items_on action_at c.args.count c.loop.counter c.loop.rest.now c.in_ok-rest.rest.now c.args.bytes.now c.loop-test.true
    c.in_ok-rest.ensures c.loop.invariant

pub returns : goal.returns
returns c = items_end action_at c.args.count c.loop.counter c.loop.rest.now c.args.bytes.now c.loop-test.false c.loop.invariant
