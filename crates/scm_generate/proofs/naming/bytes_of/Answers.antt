use Rattle.scm_generate.proofs.Units.{bytes_more}
use Rattle.scm_generate.proofs.naming.bytes_of.Goals as goal

pub loop-unit-preserved : goal.loop-unit-preserved
loop-unit-preserved c =
    bytes_more c.args.units.now c.loop-unit.bytes c.append.new.self c.loop-unit.unit-index c.loop-unit-test.true c.loop-unit.invariant
    c.in_ok-append.ensures.ok
