use Rattle.scm_book.proofs.Passes.{did_step, has_turn, names_now}
use Rattle.scm_book.specs.Ghosts.{ghosts_of}
use Rattle.scm_book.proofs.turning.Shared.make_at.Goals as goal

pub add_where_it_may-requires-clause-turn : goal.add_where_it_may-requires-clause-turn
add_where_it_may-requires-clause-turn g c =
    let ghosts = ghosts_of g.K.Keeper.held g.K.Keeper.faults g.K.Keeper.settled g.K.Keeper.crashes
    g.K.Keeper.are_crashes g.K.Keeper.asked in
    has_turn ghosts c.args.self.now.turn c.args.seat.now c.enter-held.new.seat
    c.enter-held.result
    c.enter-held.ensures c.requires.seat

pub add_where_it_may-requires-clause-own : goal.add_where_it_may-requires-clause-own
add_where_it_may-requires-clause-own g c =
    let ghosts = ghosts_of g.K.Keeper.held g.K.Keeper.faults g.K.Keeper.settled g.K.Keeper.crashes
    g.K.Keeper.are_crashes g.K.Keeper.asked in
    names_now ghosts c.args.self.now.turn c.args.seat.now c.enter-held.new.seat
    c.enter-held.result
    c.enter-held.ensures c.args.step.now.step c.requires.own

pub returns-clause-ends : goal.returns-clause-ends
returns-clause-ends g c =
    let ghosts = ghosts_of g.K.Keeper.held g.K.Keeper.faults g.K.Keeper.settled g.K.Keeper.crashes
    g.K.Keeper.are_crashes g.K.Keeper.asked in
    did_step ghosts c.args.self.now.turn c.args.seat.now c.enter-held.new.seat
    c.enter-held.result
    c.enter-held.ensures c.add_where_it_may.new.seat c.args.moment c.args.step.now.step c.add_where_it_may.result
    c.add_where_it_may.ensures.did
