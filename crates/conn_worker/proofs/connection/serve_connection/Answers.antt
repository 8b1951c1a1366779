use Rattle.conn_worker.proofs.Complete.{answers_all, complete, finds_room}
use Rattle.conn_worker.proofs.Connecting.{connects, serves_of}
use Rattle.conn_worker.proofs.connection.serve_connection.Goals as goal

pub gone-spent-requires : goal.gone-spent-requires
gone-spent-requires g c =
    let now = c.serve-how.ensures in
    serves_of g.W.Waiter.silent (λ d. d.pass) (λ d. d.book.now) (λ d. d.clock.now) g.C.Clock.tells _ _ _ _ _ _ c.serve-how.result now.served
    now.ready.0

pub returns-clause-connects : goal.returns-clause-connects
returns-clause-connects g c =
    connects g.W.Waiter.silent (λ d. d.pass) (λ d. d.book.now) (λ d. d.clock.now) g.C.Clock.tells _ _ _ _ _ _ c.serve-how.result
    c.now.result c.gone-spent.result c.requires.caller c.serve-how.ensures.served c.now.ensures c.gone-spent.ensures.goes

pub returns-clause-complete : goal.returns-clause-complete
returns-clause-complete g c =
    complete g.W.Waiter.silent (g.C.Clock.tells c.args.clock.now) c.args.book.now.opening c.args.pass c.gone-spent.result
    (g.I.Source.left c.serve-how.new.input) (g.O.Sink.held c.args.output.now) (g.O.Sink.held c.serve-how.new.output)
    (g.I.Source.faults c.args.input.now) (g.I.Source.faults c.serve-how.new.input) (g.O.Sink.faults c.args.output.now)
    (g.O.Sink.faults c.serve-how.new.output)
    (g.I.Source.left c.args.input.now) c.serve-how.result (returns-clause-connects g c) c.serve-how.ensures.cause

pub returns-clause-answers : goal.returns-clause-answers
returns-clause-answers g c =
    answers_all g.W.Waiter.silent (g.C.Clock.tells c.args.clock.now) c.args.book.now.opening c.args.pass c.gone-spent.result
    (g.I.Source.left c.serve-how.new.input) (g.O.Sink.held c.args.output.now) (g.O.Sink.held c.serve-how.new.output)
    (g.I.Source.left c.args.input.now) c.serve-how.result (returns-clause-connects g c)

pub returns-clause-room : goal.returns-clause-room
returns-clause-room g c =
    finds_room g.W.Waiter.silent (g.C.Clock.tells c.args.clock.now) c.args.book.now.opening c.args.pass c.gone-spent.result
    (g.I.Source.left c.serve-how.new.input) (g.O.Sink.held c.args.output.now) (g.O.Sink.held c.serve-how.new.output)
    (g.I.Source.left c.args.input.now) c.serve-how.result (returns-clause-connects g c)
