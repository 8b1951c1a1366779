use Rattle.std.proofs.Common.{◌∙◌, sym}
use Rattle.scm_book.specs.Ghosts.{ghosts_of}
use Rattle.scm_book.proofs.Steps.{prepared}
use Rattle.scm_book.proofs.held.Held.prepare.Goals as goal

pub returns-in-Ok-keep-clause-ok : goal.returns-in-Ok-keep-clause-ok
returns-in-Ok-keep-clause-ok g c =
    let ghosts = ghosts_of g.K.Keeper.held g.K.Keeper.faults g.K.Keeper.settled g.K.Keeper.crashes
    g.K.Keeper.are_crashes g.K.Keeper.asked in
    prepared c.args.self.now c.reserve_for.new.self c.keep.new.self ghosts c.args.doubled.now.step c.in-Ok-keep.kept
    (sym c.room_beside.ensures ∙ c.if-not-room_beside.false) c.reserve_for.ensures.same c.in-Ok.ensures.made c.in-Ok.ensures.room
    c.in-Ok.ensures.one c.in-Ok.ensures.text c.keep.ensures.manager c.keep.ensures.trail c.keep.ensures.recorder
    c.in-Ok-keep.ensures.keeps
    c.in-Ok-keep.ensures.told
