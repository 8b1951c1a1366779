use Rattle.scm_bodies.specs.Replies.{reply_bytes as body_of}
use Rattle.conn_desk.specs.declared.asked.DecodedRequest.TheVariants.{Raise}
use Rattle.conn_desk.specs.Bodies.{response}
use Rattle.conn_desk.proofs.Talking.{answered_by, talks_fault, talks_call, written_at}
use Rattle.conn_desk.proofs.serving.answer_raise.Goals as goal
use Rattle.std.proofs.Common.{◌∙◌}

pub returns-in-Ok-raised-clause-answered : goal.returns-in-Ok-raised-clause-answered
returns-in-Ok-raised-clause-answered g c =
    let d = g.D.RequestHandler in
    let r = c.args.item.now in
    let told = c.in-Ok-raised.ensures.ok in
    rw c.stopped.ensures
    (answered_by d.called d.rests d.full c.args.desk.now c.raised.new.desk _ _ _ (response r told.reply) c.reply-sent.result
    (talks_call d.called c.args.desk.now c.raised.new.desk r (Raise c.in-Ok.subtype) told.reply c.in-Ok.ensures.ok told.answered)
    (written_at c.args.session.now.state.terms r.transmit _ _ c.reply-sent.result r.call r.context c.as_slice.result.now
    (body_of told.reply) (c.as_slice.ensures ∙ told.written) c.requires.bound c.reply-sent.ensures.written))

pub returns-in-Err-clause-answered : goal.returns-in-Err-clause-answered
returns-in-Err-clause-answered g c =
    let d = g.D.RequestHandler in
    rw c.stopped-in-Err.ensures
    (answered_by d.called d.rests d.full c.args.desk.now c.args.desk.now _ _ _ _ c.fault.result
    (talks_fault d.called c.args.desk.now c.args.item.now c.in-Err.status c.in-Err.ensures.err)
    c.fault.ensures.written)
