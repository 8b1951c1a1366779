use Rattle.std.proofs.Common.{subst}
use Rattle.scm_book.specs.Ghosts.{ghosts_of}
use Rattle.scm_book.specs.Passes.{Known}
use Rattle.scm_book.specs.Starts.{AlwaysThere, Ends}
use Rattle.scm_book.proofs.Passes.{as_tokens, did_end, has_turn, there_now}
use Rattle.scm_book.proofs.turning.Shared.end_by.Goals as goal

pub add_end-ended-requires-clause-turn : goal.add_end-ended-requires-clause-turn
add_end-ended-requires-clause-turn g c =
    let ghosts = ghosts_of g.K.Keeper.held g.K.Keeper.faults g.K.Keeper.settled g.K.Keeper.crashes
    g.K.Keeper.are_crashes g.K.Keeper.asked in
    has_turn ghosts c.args.self.now.turn c.sit-seat.result c.enter-held.new.seat
    c.enter-held.result
    c.enter-held.ensures c.sit-seat.ensures.waits

pub add_end-ended-requires-clause-there : goal.add_end-ended-requires-clause-there
add_end-ended-requires-clause-there g c =
    let ghosts = ghosts_of g.K.Keeper.held g.K.Keeper.faults g.K.Keeper.settled g.K.Keeper.crashes
    g.K.Keeper.are_crashes g.K.Keeper.asked in
    there_now ghosts c.args.self.now.turn c.sit-seat.result c.enter-held.new.seat
    c.enter-held.result
    c.enter-held.ensures c.args.caller c.args.plan
    (subst (λ (k : Known). AlwaysThere c.args.self.now.turn.opening k c.args.caller c.args.plan) c.sit-seat.ensures.knows c.requires.there)

pub returns-clause-ends : goal.returns-clause-ends
returns-clause-ends g c =
    let ghosts = ghosts_of g.K.Keeper.held g.K.Keeper.faults g.K.Keeper.settled g.K.Keeper.crashes
    g.K.Keeper.are_crashes g.K.Keeper.asked in
    as_tokens (λ (k k' : Known). Ends c.args.self.now.turn.opening k c.args.moment c.args.caller c.args.plan k' c.add_end-ended.result)
    c.sit-seat.ensures.knows c.stand.ensures.knows
    (did_end ghosts c.args.self.now.turn c.sit-seat.result c.enter-held.new.seat
    c.enter-held.result
    c.enter-held.ensures c.add_end-ended.new.seat c.args.moment c.args.caller c.args.plan c.add_end-ended.result
    c.add_end-ended.ensures.did)
