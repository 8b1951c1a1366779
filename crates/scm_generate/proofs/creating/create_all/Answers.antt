use Rattle.scm_generate.proofs.Along.{creations_more, makes_none, open_creation}
use Rattle.scm_generate.proofs.creating.create_all.Goals as goal

pub loop-before-init : goal.loop-before-init
loop-before-init c = makes_none c.args.run.now

pub loop-before-preserved : goal.loop-before-preserved
loop-before-preserved c =
    creations_more c.args.run.now c.loop-before.run c.create.new.run c.loop-before.before c.loop-before.invariant c.in-Ok.ensures

pub create-requires : goal.create-requires
create-requires c = open_creation c.args.run.now c.loop-before.run c.loop-before.before c.args.services c.loop-before-test.true
    c.loop-before.invariant c.requires
