use Rattle.conn_desk.proofs.Talking.{answered_by, talks_local}
use Rattle.conn_desk.proofs.serving.answer.Goals as goal

pub returns-in-Local-clause-answered : goal.returns-in-Local-clause-answered
returns-in-Local-clause-answered g c =
    let d = g.D.RequestHandler in
    rw (c.in-Local.is, c.stopped.ensures, ← c.as_slice.ensures)
    (answered_by d.called d.rests d.full c.args.desk.now c.args.desk.now _ _ _ c.as_slice.result.now c.write_all.result
    (talks_local d.called c.args.desk.now c.as_slice.result.now) c.write_all.ensures.written)
