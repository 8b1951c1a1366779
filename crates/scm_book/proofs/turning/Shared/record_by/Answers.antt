use Rattle.std.proofs.Common.{refl, sym, subst}
use Rattle.scm_book.specs.Ghosts.{ghosts_of}
use Rattle.scm_book.specs.declared.held.Held.{Held}
use Rattle.scm_book.specs.Holds.{Holds}
use Rattle.scm_book.specs.Passes.{Known, Learnt}
use Rattle.scm_book.proofs.Holdings.{can_record, holds_recorded}
use Rattle.scm_book.proofs.Passes.{as_tokens, has_turn, left_learnt, settled_waits}
use Rattle.scm_book.proofs.turning.Shared.record_by.Goals as goal

pub record-end-requires : goal.record-end-requires
record-end-requires g c =
    let ghosts = ghosts_of g.K.Keeper.held g.K.Keeper.faults g.K.Keeper.settled g.K.Keeper.crashes
    g.K.Keeper.are_crashes g.K.Keeper.asked in
    let turn = has_turn ghosts c.args.self.now.turn c.sit-seat.result c.enter-held.new.seat
    c.enter-held.result c.enter-held.ensures c.sit-seat.ensures.waits in
    let holds = subst (λ (x : Held _). Holds ghosts c.args.self.now.turn.opening
    c.enter-held.new.seat.me.0.seen x) (sym c.deref_mut.ensures.value) turn.holds in
    can_record ghosts c.args.self.now.turn.opening c.enter-held.new.seat.me.0.seen
    c.deref_mut.result.now c.deref_mut.result.now holds

pub unlock-requires-clause-fits : goal.unlock-requires-clause-fits
unlock-requires-clause-fits g c =
    let ghosts = ghosts_of g.K.Keeper.held g.K.Keeper.faults g.K.Keeper.settled g.K.Keeper.crashes
    g.K.Keeper.are_crashes g.K.Keeper.asked in
    let turn = has_turn ghosts c.args.self.now.turn c.sit-seat.result c.enter-held.new.seat
    c.enter-held.result c.enter-held.ensures c.sit-seat.ensures.waits in
    let holds = subst (λ (x : Held _). Holds ghosts c.args.self.now.turn.opening
    c.enter-held.new.seat.me.0.seen x) (sym c.deref_mut.ensures.value) turn.holds in
    holds_recorded ghosts c.args.self.now.turn.opening c.enter-held.new.seat.me.0.seen
    c.deref_mut.result.now c.record-end.new.self holds c.record-end.ensures

pub stand-requires : goal.stand-requires
stand-requires g c =
    let ghosts = ghosts_of g.K.Keeper.held g.K.Keeper.faults g.K.Keeper.settled g.K.Keeper.crashes
    g.K.Keeper.are_crashes g.K.Keeper.asked in
    let turn = has_turn ghosts c.args.self.now.turn c.sit-seat.result c.enter-held.new.seat
    c.enter-held.result c.enter-held.ensures c.sit-seat.ensures.waits in
    settled_waits c.args.self.now.turn c.enter-held.new.seat c.unlock.new.seat c.enter-held.new.seat.me.0 turn.seat c.unlock.ensures.table
    c.unlock.ensures.seat refl

pub returns-clause-learnt : goal.returns-clause-learnt
returns-clause-learnt g c =
    let ghosts = ghosts_of g.K.Keeper.held g.K.Keeper.faults g.K.Keeper.settled g.K.Keeper.crashes
    g.K.Keeper.are_crashes g.K.Keeper.asked in
    as_tokens (λ (k k' : Known). Learnt c.args.self.now.turn.opening k k') c.sit-seat.ensures.knows c.stand.ensures.knows
    (left_learnt ghosts c.args.self.now.turn c.sit-seat.result c.enter-held.new.seat
    c.enter-held.result c.enter-held.ensures c.unlock.new.seat (record { table = c.unlock.ensures.table; me = c.unlock.ensures.seat }))
