use Rattle.std.proofs.Common.{◌∙◌, ap, sym}
use Rattle.scm_bodies.specs.Replies.{reply_bytes as body_of}
use Rattle.scm_bodies.specs.Requests.{request_at}
use Rattle.conn_desk.specs.declared.asked.DecodedRequest.TheVariants.{Call}
use Rattle.conn_desk.specs.Bodies.{or_fault, response}
use Rattle.conn_desk.proofs.Talking.{answered_by, asks_badly, asks_call, asks_nothing, talks_call, talks_fault, unanswered_by, written_at}
use Rattle.conn_desk.proofs.serving.answer_call.Goals as goal

pub returns-in_default-clause-answered : goal.returns-in_default-clause-answered
returns-in_default-clause-answered g c =
    let d = g.D.RequestHandler in
    rw c.stopped.ensures
    (answered_by d.called d.rests d.full c.args.desk.now c.args.desk.now _ _ _ _ c.fault.result
    (talks_fault d.called c.args.desk.now c.args.item.now 0x1C010002
    (asks_nothing c.args.item.now c.requires.svcctl (sym c.in_default.ensures)))
    c.fault.ensures.written)

pub returns-in-Ok-replied-clause-answered : goal.returns-in-Ok-replied-clause-answered
returns-in-Ok-replied-clause-answered g c =
    let d = g.D.RequestHandler in
    let r = c.args.item.now in
    let told = c.in-Ok-replied.ensures.ok in
    let read = ap (λ body. request_at c.in-Some.call body) (sym c.as_slice.ensures) ∙ c.in-Ok.ensures.exact in
    rw c.stopped-in-Ok-replied.ensures
    (answered_by d.called d.rests d.full c.args.desk.now c.replied.new.desk _ _ _ (response r told.reply) c.reply-sent.result
    (talks_call d.called c.args.desk.now c.replied.new.desk r (Call c.in-Ok.request) told.reply
    (asks_call r c.in-Some.call c.in-Ok.request c.requires.svcctl (sym c.in-Some.ensures) read) told.answered)
    (written_at c.args.session.now.state.terms r.transmit _ _ c.reply-sent.result r.call r.context c.as_slice-in-Ok-replied.result.now
    (body_of told.reply) (c.as_slice-in-Ok-replied.ensures ∙ told.written) c.requires.bound c.reply-sent.ensures.written))

pub returns-in-Err-replied-clause-answered : goal.returns-in-Err-replied-clause-answered
returns-in-Err-replied-clause-answered g c =
    let d = g.D.RequestHandler in
    let r = c.args.item.now in
    let read = ap (λ body. request_at c.in-Some.call body) (sym c.as_slice.ensures) ∙ c.in-Ok.ensures.exact in
    rw c.stop_at.ensures
    (unanswered_by d.called d.rests d.full c.args.desk.now c.replied.new.desk _ r (Call c.in-Ok.request) c.in-Err-replied.lacks
    (asks_call r c.in-Some.call c.in-Ok.request c.requires.svcctl (sym c.in-Some.ensures) read) c.in-Err-replied.ensures.err)

pub returns-in-Some-status_of-clause-answered : goal.returns-in-Some-status_of-clause-answered
returns-in-Some-status_of-clause-answered g c =
    let d = g.D.RequestHandler in
    let r = c.args.item.now in
    let bad = ap (λ body. or_fault Call (request_at c.in-Some.call body)) (sym c.as_slice.ensures)
    ∙ c.in-Some-status_of.ensures.status (request_at c.in-Some.call c.as_slice.result.now) c.in-Err.ensures.exact in
    rw c.stopped-in-Some-status_of.ensures
    (answered_by d.called d.rests d.full c.args.desk.now c.args.desk.now _ _ _ _ c.fault-in-Some-status_of.result
    (talks_fault d.called c.args.desk.now r c.in-Some-status_of.status
    (asks_badly r c.in-Some.call c.in-Some-status_of.status c.requires.svcctl (sym c.in-Some.ensures) bad))
    c.fault-in-Some-status_of.ensures.written)
