use Rattle.scm_launcher.proofs.Chains.{spent, spent_end}
use Rattle.scm_launcher.proofs.ticking.tick_all.Goals as goal

pub returns-clause-ticks : goal.returns-clause-ticks
returns-clause-ticks g c =
    spent (g.C.Clock.tells c.args.clock.now) c.args.book.now.opening c.args.pass c.tick_until.new.pass c.gone.result
    c.gone.ensures.goes.nobody c.requires.nobody c.tick_until.ensures.ticks

pub returns-clause-ends : goal.returns-clause-ends
returns-clause-ends g c =
    spent_end (g.C.Clock.tells c.args.clock.now) c.args.book.now.opening _ c.args.pass c.tick_until.new.pass c.gone.result
    c.gone.ensures.goes.nobody c.requires.nobody c.tick_until.ensures.ticks c.tick_until.ensures.ends
