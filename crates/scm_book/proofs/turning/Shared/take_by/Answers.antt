use Rattle.scm_book.specs.Ghosts.{ghosts_of}
use Rattle.scm_book.specs.Passes.{Known}
use Rattle.scm_book.specs.Processes.{TakesBy}
use Rattle.scm_book.proofs.Firsts.{did_launch}
use Rattle.scm_book.proofs.Passes.{as_tokens, has_turn}
use Rattle.scm_book.proofs.turning.Shared.take_by.Goals as goal

pub add_taken-taken-requires-clause-turn : goal.add_taken-taken-requires-clause-turn
add_taken-taken-requires-clause-turn g c =
    let ghosts = ghosts_of g.K.Keeper.held g.K.Keeper.faults g.K.Keeper.settled g.K.Keeper.crashes
    g.K.Keeper.are_crashes g.K.Keeper.asked in
    has_turn ghosts c.args.self.now.turn c.sit-seat.result c.enter-held.new.seat
    c.enter-held.result
    c.enter-held.ensures c.sit-seat.ensures.waits

pub returns-clause-takes : goal.returns-clause-takes
returns-clause-takes g c =
    let ghosts = ghosts_of g.K.Keeper.held g.K.Keeper.faults g.K.Keeper.settled g.K.Keeper.crashes
    g.K.Keeper.are_crashes g.K.Keeper.asked in
    as_tokens (λ (k k' : Known). TakesBy c.args.self.now.turn.opening k c.args.moment c.args.path.now c.add_taken-taken.new.path
    c.add_taken-taken.result k') c.sit-seat.ensures.knows c.stand.ensures.knows
    (did_launch ghosts c.args.self.now.turn c.sit-seat.result c.enter-held.new.seat
    c.enter-held.result
    c.enter-held.ensures c.add_taken-taken.new.seat c.args.moment c.args.path.now
    c.add_taken-taken.new.path c.add_taken-taken.result c.add_taken-taken.ensures.did)
