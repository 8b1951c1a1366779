use Rattle.scm_book.proofs.Standing.{added_holds, made_holds}
use Rattle.scm_book.proofs.Holdings.{holds_same}
use Rattle.scm_book.specs.Ghosts.{ghosts_of}
use Rattle.scm_book.proofs.laws.standing_is_kept.Goals as goal

pub returns : goal.returns
returns g c =
    let ghosts = ghosts_of g.K.Keeper.held g.K.Keeper.faults g.K.Keeper.settled g.K.Keeper.crashes
    g.K.Keeper.are_crashes g.K.Keeper.asked in
    record {
      makes = λ o log h h' moment step told runs holds made. made_holds ghosts o log h holds h'
          moment step told runs
          made;
      adds = λ o log h h' moment owed told runs holds adds. added_holds ghosts o log h holds h'
          moment owed told runs
          adds;
      leaves = λ o log h h' holds same. holds_same ghosts o log h h' holds same;
    }
