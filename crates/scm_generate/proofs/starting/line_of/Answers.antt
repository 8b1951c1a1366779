use Rattle.std.proofs.Common.{arith}
use Rattle.scm_generate.proofs.Units.{line_half, line_short}
use Rattle.scm_generate.proofs.starting.line_of.Goals as goal

pub loop-rest-init : goal.loop-rest-init
loop-rest-init c = record { counted = omega arith; most = line_short c.args.number c.ranges.number.fits }

pub loop-rest-preserved : goal.loop-rest-preserved
loop-rest-preserved c =
    let before = c.loop-rest.invariant in
    record { counted = omega (arith, before.counted, line_half c.loop-rest.rest c.loop-rest-test.true); most = before.most }
