use Rattle.std.proofs.Common.{◌∷◌, [], ℕ, List, refl, subst, sym}
use Rattle.scm_book.specs.declared.controlling.HandedOrder.{HandedOrder}
use Rattle.child_runner.specs.Sending.{Takes, handed_of}
use Rattle.child_runner.proofs.Takings.{goes_learnt, line_ends, over, shut, takes_one, unmade}
use Rattle.child_runner.proofs.sending.Sender.send_next.Goals as goal

pub returns-then-asked-clause-sends : goal.returns-then-asked-clause-sends
returns-then-asked-clause-sends g c =
    shut (g.C.Clock.tells c.args.self.now.clock.now) c.args.self.now.book.now.opening c.args.self.now.process
    (g.Q.Quit.may_ask c.args.self.now.quit.now) c.args.pass.now c.args.pass.now
    (g.F.Sink.held c.args.feed.now) (g.F.Sink.faults c.args.feed.now) refl (c.asked.ensures c.if-asked.true)

pub returns-in-Control-clause-sends : goal.returns-in-Control-clause-sends
returns-in-Control-clause-sends g c =
    let tells = g.C.Clock.tells c.args.self.now.clock.now in
    let k' = c.take_control.new.pass in
    let handed : HandedOrder = record { order = c.in-Control.order; shared = c.in-Control.shared } in
    line_ends tells c.args.self.now.book.now.opening c.args.self.now.process (g.Q.Quit.may_ask c.args.self.now.quit.now) c.args.pass.now k'
    (handed_of handed.order handed.shared c.units.result.now)
    (g.F.Sink.held c.args.feed.now) (g.F.Sink.held c.send_line.new.feed) (g.F.Sink.faults c.args.feed.now)
    (g.F.Sink.faults c.send_line.new.feed)
    (subst (λ (name : List ℕ). Takes tells c.args.self.now.book.now.opening c.args.self.now.process c.args.pass.now
    (handed_of handed.order handed.shared name ∷ []) k') (sym c.units.ensures.units)
    (takes_one tells c.args.self.now.book.now.opening c.args.self.now.process c.args.pass.now k' c.now-moment.result c.args.room.now.name
    c.take_control.new.room.name handed c.now-moment.ensures c.in-Control.ensures.ends))
    c.send_line.result c.send_line.ensures

pub returns-in-Empty-clause-sends : goal.returns-in-Empty-clause-sends
returns-in-Empty-clause-sends g c =
    goes_learnt (g.C.Clock.tells c.args.self.now.clock.now) c.args.self.now.book.now.opening c.args.self.now.process
    c.args.pass.now c.take_control.new.pass
    (g.F.Sink.held c.args.feed.now) (g.F.Sink.faults c.args.feed.now) c.in-Empty.ensures.ends.0

pub returns-in-Over-clause-sends : goal.returns-in-Over-clause-sends
returns-in-Over-clause-sends g c =
    over (g.C.Clock.tells c.args.self.now.clock.now) c.args.self.now.book.now.opening c.args.self.now.process
    (g.Q.Quit.may_ask c.args.self.now.quit.now) c.args.pass.now c.take_control.new.pass
    (g.F.Sink.held c.args.feed.now) (g.F.Sink.faults c.args.feed.now) c.in-Over.ensures.ends.0 c.in-Over.ensures.ends.1

pub returns-in-Unmade-clause-sends : goal.returns-in-Unmade-clause-sends
returns-in-Unmade-clause-sends g c =
    unmade (g.C.Clock.tells c.args.self.now.clock.now) c.args.self.now.book.now.opening c.args.self.now.process
    (g.Q.Quit.may_ask c.args.self.now.quit.now) c.args.pass.now c.take_control.new.pass
    (g.F.Sink.held c.args.feed.now) (g.F.Sink.faults c.args.feed.now) c.now-moment.result c.now-moment.ensures c.in-Unmade.fault
    c.in-Unmade.ensures.ends.0 c.in-Unmade.ensures.ends.1 c.unsent.result c.unsent.ensures
