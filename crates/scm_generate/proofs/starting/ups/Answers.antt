use Rattle.scm_generate.proofs.Along.{makes_none, open_up, ups_more}
use Rattle.scm_generate.proofs.starting.ups.Goals as goal

pub loop-before-init : goal.loop-before-init
loop-before-init c = makes_none c.args.run.now

pub loop-before-preserved : goal.loop-before-preserved
loop-before-preserved c =
    ups_more c.args.run.now c.loop-before.run c.up.new.run c.args.first c.loop-before.before c.loop-before.invariant c.in-Ok.ensures

pub up-requires : goal.up-requires
up-requires c = open_up c.args.run.now c.loop-before.run c.args.first c.loop-before.before c.args.count c.loop-before-test.true
    c.loop-before.invariant c.requires.open
