use Rattle.std.proofs.Common.{◌∙◌, ap}
use Rattle.scm_rules.specs.Controls.{waiting}
use Rattle.scm_book.specs.Ghosts.{ghosts_of}
use Rattle.scm_book.specs.declared.held.Held.{Held}
use Rattle.scm_book.specs.Passes.{Known}
use Rattle.scm_book.specs.Reporting.{LooksFor}
use Rattle.scm_book.proofs.Passes.{as_tokens, has_turn}
use Rattle.scm_book.proofs.ReportsMade.{looks_for}
use Rattle.scm_book.proofs.turning.Shared.control_by.Goals as goal

pub add_control-ended-requires-clause-turn : goal.add_control-ended-requires-clause-turn
add_control-ended-requires-clause-turn g c =
    let ghosts = ghosts_of g.K.Keeper.held g.K.Keeper.faults g.K.Keeper.settled g.K.Keeper.crashes
    g.K.Keeper.are_crashes g.K.Keeper.asked in
    has_turn ghosts c.args.self.now.turn c.sit-seat.result c.enter-held.new.seat
    c.enter-held.result
    c.enter-held.ensures c.sit-seat.ensures.waits

pub returns-clause-looks : goal.returns-clause-looks
returns-clause-looks g c =
    let ghosts = ghosts_of g.K.Keeper.held g.K.Keeper.faults g.K.Keeper.settled g.K.Keeper.crashes
    g.K.Keeper.are_crashes g.K.Keeper.asked in
    as_tokens (λ (k k' : Known). LooksFor c.args.self.now.turn.opening k c.args.moment c.args.process c.args.name.now
    c.add_control-ended.new.name k' (record { ended = c.add_control-ended.result; waiting = c.waiting-waiting.result }))
    c.sit-seat.ensures.knows c.stand.ensures.knows
    (looks_for ghosts c.args.self.now.turn c.sit-seat.result c.enter-held.new.seat
    c.enter-held.result
    c.enter-held.ensures c.add_control-ended.new.seat c.args.moment c.args.process c.args.name.now c.add_control-ended.new.name
    (record { ended = c.add_control-ended.result; waiting = c.waiting-waiting.result })
    (c.waiting-waiting.ensures ∙ ap (λ (h : Held _). waiting h.manager.flat c.args.process) c.deref.ensures)
    c.add_control-ended.ensures.did)
