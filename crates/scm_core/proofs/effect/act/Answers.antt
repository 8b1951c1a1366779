use Rattle.scm_core.proofs.Acting.{acted}
use Rattle.scm_core.proofs.effect.act.Goals as goal

pub returns-clause-flat : goal.returns-clause-flat
returns-clause-flat c =
    acted c.args.tables.now.limits c.begin.new.tables.limits c.effect.new.tables.limits c.args.tables.now.flat
    c.begin.new.tables.flat c.effect.new.tables.flat c.settle.new.self.flat c.finish_begun.new.tables.flat c.purge.new.self.flat
    c.args.moment c.args.step.now c.effect.new.answer c.begin.ensures.flat c.begin.ensures.limits c.effect.ensures.flat
    c.effect.ensures.answer c.effect.ensures.limits c.settle.ensures.flat c.finish_begun.ensures.flat c.purge.ensures.flat
