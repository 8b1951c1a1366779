use Rattle.scm_book.specs.Ghosts.{ghosts_of}
use Rattle.scm_serving.proofs.Closing.{closed_past, closed_so}
use Rattle.scm_serving.proofs.serving.closed.Goals as goal

pub book_end-end-requires : goal.book_end-end-requires
book_end-end-requires g c =
    let ghosts = ghosts_of g.K.Keeper.held g.K.Keeper.faults g.K.Keeper.settled g.K.Keeper.crashes
    g.K.Keeper.are_crashes g.K.Keeper.asked in
    closed_past ghosts c.args.book.opening c.args.last c.close-trail.result c.requires.whole c.close-trail.ensures

pub returns-clause-closes : goal.returns-clause-closes
returns-clause-closes g c =
    let ghosts = ghosts_of g.K.Keeper.held g.K.Keeper.faults g.K.Keeper.settled g.K.Keeper.crashes
    g.K.Keeper.are_crashes g.K.Keeper.asked in
    closed_so ghosts c.args.book.opening c.args.last c.close-trail.result c.args.served.end c.book_end-end.result c.requires.whole
    c.close-trail.ensures c.book_end-end.ensures
