use Rattle.scm_book.proofs.Following.{follows}
use Rattle.scm_book.specs.Ghosts.{ghosts_of}
use Rattle.scm_book.proofs.laws.each_entry_follows.Goals as goal

pub returns : goal.returns
returns g c =
    let ghosts = ghosts_of g.K.Keeper.held g.K.Keeper.faults g.K.Keeper.settled g.K.Keeper.crashes
    g.K.Keeper.are_crashes g.K.Keeper.asked in
    λ o log e runs ok free. follows ghosts o log e runs ok free
