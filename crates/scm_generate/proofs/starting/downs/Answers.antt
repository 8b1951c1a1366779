use Rattle.std.proofs.Common.{arith}
use Rattle.scm_generate.proofs.Along.{downs_more, downs_none, open_down, open_downs}
use Rattle.scm_generate.proofs.starting.downs.Goals as goal

pub loop-left-init : goal.loop-left-init
loop-left-init c = record { most = omega arith; still = c.requires.open; whole = λ now rest. rest }

pub down-requires : goal.down-requires
down-requires c =
    let before = c.loop-left.invariant in
    open_down c.loop-left.run c.args.first c.loop-left.left c.loop-left-test.true before.still

pub loop-left-preserved : goal.loop-left-preserved
loop-left-preserved c =
    let before = c.loop-left.invariant in
    record {
      most = omega (arith, before.most);
      still = open_downs c.loop-left.run c.down.new.run c.args.first c.loop-left.left c.loop-left-test.true c.in-Ok.ensures before.still;
      whole = λ now rest.
          before.whole now
          (downs_more c.loop-left.run c.down.new.run now c.args.first c.loop-left.left c.loop-left-test.true c.in-Ok.ensures rest);
    }

pub returns : goal.returns
returns c =
    let before = c.loop-left.invariant in
    before.whole c.loop-left.run (downs_none c.loop-left.run c.args.first c.loop-left.left (omega (arith, c.loop-left-test.false)))
