use Rattle.std.proofs.Common.{sym, subst, ◌∙◌}
use Rattle.std.specs.Prelude.{Ok}
use Rattle.sc_client.specs.Along.{TakesPdu}
use Rattle.sc_client.proofs.Turning.{turn_read, turn_part, turn_next}
use Rattle.sc_client.proofs.running.turn.Goals as goal

pub returns-then-not-branch-clause-turned : goal.returns-then-not-branch-clause-turned
returns-then-not-branch-clause-turned g c =
    let x = subst (λ b. TakesPdu c.args.command.now c.args.talk.now c.take_pdu.new.talk c.args.held.now c.take_pdu.new.held (Ok b))
    c.if-not-branch.true c.in_ok-take_pdu.ensures in
    turn_read c.args.command.now c.args.talk.now c.take_pdu.new.talk c.args.held.now c.take_pdu.new.held c.read_more.new.self
    (g.S.Source.left c.args.source.now) (g.S.Source.left c.read_more.new.source)
    (g.T.Sink.held c.args.sink.now) c.requires.goes_on x c.in_ok-read_more.ensures.read

pub returns-then-not-is_whole-clause-turned : goal.returns-then-not-is_whole-clause-turned
returns-then-not-is_whole-clause-turned g c =
    let x = subst (λ b. TakesPdu c.args.command.now c.args.talk.now c.take_pdu.new.talk c.args.held.now c.take_pdu.new.held (Ok b))
    c.if-not-branch.false c.in_ok-take_pdu.ensures in
    turn_part c.args.command.now c.args.talk.now c.take_pdu.new.talk c.args.held.now c.take_pdu.new.held
    (g.S.Source.left c.args.source.now) (g.T.Sink.held c.args.sink.now) x (sym c.is_whole.ensures ∙ c.if-not-is_whole.true)

pub returns-clause-turned : goal.returns-clause-turned
returns-clause-turned g c =
    let x = subst (λ b. TakesPdu c.args.command.now c.args.talk.now c.take_pdu.new.talk c.args.held.now c.take_pdu.new.held (Ok b))
    c.if-not-branch.false c.in_ok-take_pdu.ensures in
    turn_next c.args.command.now c.args.talk.now c.take_pdu.new.talk c.args.held.now c.take_pdu.new.held
    (g.S.Source.left c.args.source.now) (g.T.Sink.held c.args.sink.now) (g.T.Sink.held c.ask_next.new.sink) c.ask_next.result x
    (sym c.is_whole.ensures ∙ c.if-not-is_whole.false) c.ask_next.ensures.asked
