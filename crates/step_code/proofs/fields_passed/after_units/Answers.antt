use Rattle.std.proofs.lemmas.Bool.{ne_eqb}
use Rattle.step_code.proofs.Passed.{units_end, units_on}
use Rattle.step_code.proofs.fields_passed.after_units.Goals as goal

pub loop-preserved : goal.loop-preserved
loop-preserved c =
    units_on c.args.count c.loop.counter c.in-Ok.unit c.loop.rest.now c.in-Ok.after.now c.args.bytes.now c.loop-test.true c.in-Ok.ensures
    (ne_eqb c.in-Ok.unit 0 c.if-unit-eq0.false) c.loop.invariant

pub returns : goal.returns
returns c = units_end c.args.count c.loop.counter c.loop.rest.now c.args.bytes.now c.loop-test.false c.loop.invariant
