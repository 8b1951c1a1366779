use Rattle.conn_desk.specs.Along.{Point}
use Rattle.conn_desk.proofs.Walking.{fed_piece, piece_wants}
use Rattle.conn_desk.proofs.serving.feed.Goals as goal

pub returns-in-Ok-clause-fed : goal.returns-in-Ok-clause-fed
returns-in-Ok-clause-fed g c =
    let d = g.D.RequestHandler in
    let a : Point g.row.D.Denot = record { session = c.args.session.now; desk = c.args.desk.now; held = g.O.Sink.held c.args.output.now } in
    let b : Point g.row.D.Denot = record {
      session = c.drain.new.session;
      desk = c.drain.new.desk;
      held = g.O.Sink.held c.drain.new.output;
    } in
    fed_piece d.called d.rests d.full c.args.piece.now a c.feed.new.self c.in-Ok.ensures.gave b c.drain.result c.drain.ensures.fed

pub returns-in-Err-clause-fed : goal.returns-in-Err-clause-fed
returns-in-Err-clause-fed g c =
    let d = g.D.RequestHandler in
    let a : Point g.row.D.Denot = record { session = c.args.session.now; desk = c.args.desk.now; held = g.O.Sink.held c.args.output.now } in
    piece_wants d.called d.rests d.full c.args.piece.now a c.feed.new.self
