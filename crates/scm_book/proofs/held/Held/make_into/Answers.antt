use Rattle.scm_book.specs.Ghosts.{ghosts_of}
use Rattle.scm_book.proofs.Steps.{made}
use Rattle.scm_book.proofs.held.Held.make_into.Goals as goal

pub returns-clause-ok : goal.returns-clause-ok
returns-clause-ok g c =
    let ghosts = ghosts_of g.K.Keeper.held g.K.Keeper.faults g.K.Keeper.settled g.K.Keeper.crashes
    g.K.Keeper.are_crashes g.K.Keeper.asked in
    made c.args.self.now c.prepare.new.self c.finish.new.self ghosts c.args.doubled.now.step c.in_ok-kept.kept c.args.moment
    c.finish.new.answer c.in_ok-kept.ensures.ok c.finish.ensures.grows c.finish.ensures.journal c.finish.ensures.keeper
    c.finish.ensures.room
