use Rattle.feed_loop.specs.Feeding.{fed_at}
use Rattle.conn_desk.specs.declared.serving.ConnectionReader.{ConnectionReader}
use Rattle.conn_desk.proofs.Ends.{begins}
use Rattle.conn_desk.proofs.Whole.{cause_fed, grows_fed, serves_fed}
use Rattle.conn_desk.proofs.serving.serve.Goals as goal

pub returns-clause-served : goal.returns-clause-served
returns-clause-served g c =
    let d = g.D.RequestHandler in
    let reader : ConnectionReader = record { alloc = c.args.alloc; session = c.new.result; replies = c.new-2.result } in
    let a = fed_at reader c.args.desk.now c.args.output.now in
    let e = fed_at c.feed_all-fed.new.eater c.feed_all-fed.new.place c.feed_all-fed.new.output in
    rw (c.served_as.ensures, c.at_rest.ensures)
    (serves_fed d.called d.rests d.full g.O.Sink.held g.O.Sink.faults a e (g.I.Source.left c.args.input.now)
    (g.I.Source.left c.feed_all-fed.new.input) c.feed_all-fed.new.count
    (begins d.called c.args.desk.now (g.O.Sink.held c.args.output.now) c.new.result c.new.ensures.value c.new.ensures.gave)
    c.feed_all-fed.result c.feed_all-fed.ensures.feeds c.feed_all-fed.ensures.most)

pub returns-clause-output : goal.returns-clause-output
returns-clause-output g c =
    let d = g.D.RequestHandler in
    let reader : ConnectionReader = record { alloc = c.args.alloc; session = c.new.result; replies = c.new-2.result } in
    let a = fed_at reader c.args.desk.now c.args.output.now in
    let e = fed_at c.feed_all-fed.new.eater c.feed_all-fed.new.place c.feed_all-fed.new.output in
    grows_fed d.called d.rests d.full g.O.Sink.held g.O.Sink.faults a e (g.I.Source.left c.args.input.now)
    (g.I.Source.left c.feed_all-fed.new.input) c.feed_all-fed.new.count
    c.feed_all-fed.result c.feed_all-fed.ensures.feeds

pub returns-clause-cause : goal.returns-clause-cause
returns-clause-cause g c =
    let d = g.D.RequestHandler in
    let reader : ConnectionReader = record { alloc = c.args.alloc; session = c.new.result; replies = c.new-2.result } in
    let a = fed_at reader c.args.desk.now c.args.output.now in
    let e = fed_at c.feed_all-fed.new.eater c.feed_all-fed.new.place c.feed_all-fed.new.output in
    rw c.served_as.ensures
    (cause_fed d.called d.rests d.full g.O.Sink.held g.O.Sink.faults a e (g.I.Source.left c.args.input.now)
    (g.I.Source.left c.feed_all-fed.new.input) c.feed_all-fed.new.count
    c.feed_all-fed.result c.at_rest.result (g.I.Source.faults c.args.input.now)
    (g.I.Source.faults c.feed_all-fed.new.input) c.feed_all-fed.ensures.feeds c.feed_all-fed.ensures.cause)
