use Rattle.std.proofs.Common.{subst}
use Rattle.scm_model.specs.declared.steps.Step.{Step}
use Rattle.scm_model.specs.declared.steps.Step.TheVariants.{NoMemory}
use Rattle.scm_book.specs.Ghosts.{ghosts_of}
use Rattle.scm_book.specs.Passes.{Known}
use Rattle.scm_book.specs.Turns.{AlwaysMay, CallEnds, call_told}
use Rattle.scm_book.proofs.Passes.{as_tokens, did_call, has_turn, may_now}
use Rattle.scm_book.proofs.turning.Shared.call_by.Goals as goal

pub add_call-ended-requires-clause-turn : goal.add_call-ended-requires-clause-turn
add_call-ended-requires-clause-turn g c =
    let ghosts = ghosts_of g.K.Keeper.held g.K.Keeper.faults g.K.Keeper.settled g.K.Keeper.crashes
    g.K.Keeper.are_crashes g.K.Keeper.asked in
    has_turn ghosts c.args.self.now.turn c.sit-seat.result c.enter-held.new.seat
    c.enter-held.result
    c.enter-held.ensures c.sit-seat.ensures.waits

pub add_call-ended-requires-clause-may : goal.add_call-ended-requires-clause-may
add_call-ended-requires-clause-may g c =
    let ghosts = ghosts_of g.K.Keeper.held g.K.Keeper.faults g.K.Keeper.settled g.K.Keeper.crashes
    g.K.Keeper.are_crashes g.K.Keeper.asked in
    may_now ghosts c.args.self.now.turn c.sit-seat.result c.enter-held.new.seat
    c.enter-held.result
    c.enter-held.ensures c.args.moment c.args.call.now.step
    (subst (λ (k : Known). AlwaysMay c.args.self.now.turn.opening k c.args.moment c.args.call.now.step) c.sit-seat.ensures.knows
    c.requires.may)

pub add_call-ended-requires-clause-none : goal.add_call-ended-requires-clause-none
add_call-ended-requires-clause-none g c =
    let ghosts = ghosts_of g.K.Keeper.held g.K.Keeper.faults g.K.Keeper.settled g.K.Keeper.crashes
    g.K.Keeper.are_crashes g.K.Keeper.asked in
    let none : Step = NoMemory c.args.caller in
    may_now ghosts c.args.self.now.turn c.sit-seat.result c.enter-held.new.seat
    c.enter-held.result
    c.enter-held.ensures c.args.moment none
    (subst (λ (k : Known). AlwaysMay c.args.self.now.turn.opening k c.args.moment none) c.sit-seat.ensures.knows c.requires.none)

pub returns-clause-ends : goal.returns-clause-ends
returns-clause-ends g c =
    let ghosts = ghosts_of g.K.Keeper.held g.K.Keeper.faults g.K.Keeper.settled g.K.Keeper.crashes
    g.K.Keeper.are_crashes g.K.Keeper.asked in
    as_tokens (λ (k k' : Known). CallEnds c.args.self.now.turn.opening k c.args.moment c.args.caller c.args.call.now.step
    (call_told c.add_call-ended.result c.add_call-ended.new.answer) k') c.sit-seat.ensures.knows c.stand.ensures.knows
    (did_call ghosts c.args.self.now.turn c.sit-seat.result c.enter-held.new.seat
    c.enter-held.result
    c.enter-held.ensures c.add_call-ended.new.seat c.args.moment c.args.caller c.args.call.now.step
    (call_told c.add_call-ended.result c.add_call-ended.new.answer)
    c.add_call-ended.ensures.did)
