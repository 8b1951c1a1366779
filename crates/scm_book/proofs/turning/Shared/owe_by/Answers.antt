use Rattle.std.proofs.Common.{subst}
use Rattle.scm_book.specs.Ghosts.{ghosts_of}
use Rattle.scm_book.specs.Passes.{Known, Made}
use Rattle.scm_book.specs.Steps.{owed_step}
use Rattle.scm_book.specs.Turns.{AlwaysMay}
use Rattle.scm_book.proofs.Passes.{as_tokens, did_made, has_turn, may_now}
use Rattle.scm_book.proofs.turning.Shared.owe_by.Goals as goal

pub add_owed-told-requires-clause-turn : goal.add_owed-told-requires-clause-turn
add_owed-told-requires-clause-turn g c =
    let ghosts = ghosts_of g.K.Keeper.held g.K.Keeper.faults g.K.Keeper.settled g.K.Keeper.crashes
    g.K.Keeper.are_crashes g.K.Keeper.asked in
    has_turn ghosts c.args.self.now.turn c.sit-seat.result c.enter-held.new.seat
    c.enter-held.result
    c.enter-held.ensures c.sit-seat.ensures.waits

pub add_owed-told-requires-clause-may : goal.add_owed-told-requires-clause-may
add_owed-told-requires-clause-may g c =
    let ghosts = ghosts_of g.K.Keeper.held g.K.Keeper.faults g.K.Keeper.settled g.K.Keeper.crashes
    g.K.Keeper.are_crashes g.K.Keeper.asked in
    may_now ghosts c.args.self.now.turn c.sit-seat.result c.enter-held.new.seat
    c.enter-held.result
    c.enter-held.ensures c.args.moment (owed_step c.args.owed)
    (subst (λ (k : Known). AlwaysMay c.args.self.now.turn.opening k c.args.moment (owed_step c.args.owed)) c.sit-seat.ensures.knows
    c.requires.may)

pub returns-clause-made : goal.returns-clause-made
returns-clause-made g c =
    let ghosts = ghosts_of g.K.Keeper.held g.K.Keeper.faults g.K.Keeper.settled g.K.Keeper.crashes
    g.K.Keeper.are_crashes g.K.Keeper.asked in
    as_tokens (λ (k k' : Known). Made c.args.self.now.turn.opening k c.args.moment (owed_step c.args.owed) c.add_owed-told.result k')
    c.sit-seat.ensures.knows c.stand.ensures.knows
    (did_made ghosts c.args.self.now.turn c.sit-seat.result c.enter-held.new.seat
    c.enter-held.result
    c.enter-held.ensures c.add_owed-told.new.seat c.args.moment (owed_step c.args.owed) c.add_owed-told.result
    c.add_owed-told.ensures.did)
