use Rattle.std.proofs.Common.{subst}
use Rattle.scm_model.specs.declared.steps.Step.{Step}
use Rattle.scm_book.specs.Ghosts.{ghosts_of}
use Rattle.scm_book.specs.Joins.{DidBeside, Joins}
use Rattle.scm_book.specs.Passes.{KeepsAll, Known, Learnt}
use Rattle.scm_book.specs.Turns.{known, of_badge}
use Rattle.scm_book.proofs.InHandStill.{learnt_keeps}
use Rattle.scm_book.proofs.JoinsMade.{joined_beside, keeps_beside, told_is, told_new}
use Rattle.scm_book.proofs.Passes.{as_tokens, has_turn, left_learnt}
use Rattle.scm_book.proofs.turning.Shared.join_beside.Goals as goal

pub add_beside-requires-clause-turn : goal.add_beside-requires-clause-turn
add_beside-requires-clause-turn g c =
    let ghosts = ghosts_of g.K.Keeper.held g.K.Keeper.faults g.K.Keeper.settled g.K.Keeper.crashes
    g.K.Keeper.are_crashes g.K.Keeper.asked in
    has_turn ghosts c.args.self.now.turn c.sit-mine.result c.enter-held.new.seat
    c.enter-held.result c.enter-held.ensures c.sit-mine.ensures.waits

pub caller_of-caller-requires : goal.caller_of-caller-requires
caller_of-caller-requires g c =
    let ghosts = ghosts_of g.K.Keeper.held g.K.Keeper.faults g.K.Keeper.settled g.K.Keeper.crashes
    g.K.Keeper.are_crashes g.K.Keeper.asked in
    let beside = subst (λ (step : Step). DidBeside ghosts c.args.self.now.turn
    c.enter-held.new.seat c.add_beside.new.seat c.args.moment step c.in-Ok.field-0) c.new-joined.ensures c.in-Ok.ensures.did in (
      c.in-Ok.field-0.seat.me.0.caller,
      told_new ghosts c.args.self.now.turn c.requires.opens c.sit-mine.result
          c.enter-held.new.seat c.add_beside.new.seat c.enter-held.result c.enter-held.ensures c.args.moment c.args.principal
          c.in-Ok.field-0 beside,
    )

pub invariant_of-result : goal.invariant_of-result
invariant_of-result g c =
    let ghosts = ghosts_of g.K.Keeper.held g.K.Keeper.faults g.K.Keeper.settled g.K.Keeper.crashes
    g.K.Keeper.are_crashes g.K.Keeper.asked in
    let beside = subst (λ (step : Step). DidBeside ghosts c.args.self.now.turn
    c.enter-held.new.seat c.add_beside.new.seat c.args.moment step c.in-Ok.field-0) c.new-joined.ensures c.in-Ok.ensures.did in record {
      rests = c.stand-badge.ensures.seated.rests;
      whose = told_is ghosts c.args.self.now.turn c.requires.opens c.sit-mine.result
          c.enter-held.new.seat c.add_beside.new.seat c.enter-held.result c.enter-held.ensures c.args.moment c.args.principal
          c.in-Ok.field-0 beside c.fork-witness.new.seat c.fork-witness.result c.merge.new.seat c.fork-witness.ensures
          c.merge.ensures.seat (of_badge c.stand-badge.result) c.stand-badge.ensures.knows c.caller_of-caller.result
          c.caller_of-caller.ensures;
    }

pub returns-in-Ok-clause-keeps : goal.returns-in-Ok-clause-keeps
returns-in-Ok-clause-keeps g c =
    let ghosts = ghosts_of g.K.Keeper.held g.K.Keeper.faults g.K.Keeper.settled g.K.Keeper.crashes
    g.K.Keeper.are_crashes g.K.Keeper.asked in
    as_tokens (λ (k k' : Known). KeepsAll c.args.self.now.turn.opening k k') c.sit-mine.ensures.knows c.stand.ensures.knows
    (keeps_beside ghosts c.args.self.now.turn c.sit-mine.result c.enter-held.new.seat
    c.add_beside.new.seat c.enter-held.result c.enter-held.ensures c.args.moment c.new-joined.result.step c.in-Ok.field-0
    c.in-Ok.ensures.did c.fork-witness.new.seat c.fork-witness.result c.merge.new.seat c.fork-witness.ensures c.merge.ensures.seat
    c.requires.opens c.merge.ensures.claims)

pub returns-in-Ok-clause-joins : goal.returns-in-Ok-clause-joins
returns-in-Ok-clause-joins g c =
    let ghosts = ghosts_of g.K.Keeper.held g.K.Keeper.faults g.K.Keeper.settled g.K.Keeper.crashes
    g.K.Keeper.are_crashes g.K.Keeper.asked in
    let beside = subst (λ (step : Step). DidBeside ghosts c.args.self.now.turn
    c.enter-held.new.seat c.add_beside.new.seat c.args.moment step c.in-Ok.field-0) c.new-joined.ensures c.in-Ok.ensures.did in
    as_tokens (λ (k k' : Known). Joins c.args.self.now.turn.opening k c.args.moment c.args.principal k' (of_badge c.stand-badge.result))
    c.sit-mine.ensures.knows c.stand.ensures.knows
    (joined_beside ghosts c.args.self.now.turn c.requires.opens c.sit-mine.result
    c.enter-held.new.seat c.add_beside.new.seat c.enter-held.result c.enter-held.ensures c.args.moment c.args.principal
    c.in-Ok.field-0 beside c.fork-witness.new.seat c.fork-witness.result c.merge.new.seat c.fork-witness.ensures
    c.merge.ensures.seat (of_badge c.stand-badge.result) c.stand-badge.ensures.knows)

pub returns-clause-learnt : goal.returns-clause-learnt
returns-clause-learnt g c =
    let ghosts = ghosts_of g.K.Keeper.held g.K.Keeper.faults g.K.Keeper.settled g.K.Keeper.crashes
    g.K.Keeper.are_crashes g.K.Keeper.asked in
    as_tokens (λ (k k' : Known). Learnt c.args.self.now.turn.opening k k') c.sit-mine.ensures.knows c.stand-in-Err.ensures.knows
    (left_learnt ghosts c.args.self.now.turn c.sit-mine.result c.enter-held.new.seat
    c.enter-held.result c.enter-held.ensures c.add_beside.new.seat c.in-Err.ensures.did.0)

pub returns-clause-keeps : goal.returns-clause-keeps
returns-clause-keeps g c =
    let ghosts = ghosts_of g.K.Keeper.held g.K.Keeper.faults g.K.Keeper.settled g.K.Keeper.crashes
    g.K.Keeper.are_crashes g.K.Keeper.asked in
    as_tokens (λ (k k' : Known). KeepsAll c.args.self.now.turn.opening k k') c.sit-mine.ensures.knows c.stand-in-Err.ensures.knows
    (learnt_keeps c.args.self.now.turn.opening c.requires.opens (known c.sit-mine.result) (known c.add_beside.new.seat)
    (left_learnt ghosts c.args.self.now.turn c.sit-mine.result c.enter-held.new.seat
    c.enter-held.result c.enter-held.ensures c.add_beside.new.seat c.in-Err.ensures.did.0))
