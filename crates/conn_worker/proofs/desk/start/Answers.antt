use Rattle.std.proofs.Common.{◌∙◌, sym}
use Rattle.scm_model.specs.declared.calls.Reply.{Reply}
use Rattle.conn_desk.specs.declared.asked.DecodedRequest.TheVariants as asks
use Rattle.conn_desk.specs.Desks.{CallAnswered}
use Rattle.conn_worker.specs.Serving.{IsServed}
use Rattle.conn_worker.proofs.Answering.{answered_caller, at_once, ended_caller, full_now, put_there, waited_for}
use Rattle.conn_worker.proofs.desk.start.Goals as goal

pub returns-in-Answered-clause-caller : goal.returns-in-Answered-clause-caller
returns-in-Answered-clause-caller g c =
    answered_caller c.args.book.now.opening c.args.pass.now c.begin_start.new.pass c.now-moment.result c.args.request c.in-Answered.reply
    c.in-Answered.ensures.starts

pub returns-in-Answered-clause-answered : goal.returns-in-Answered-clause-answered
returns-in-Answered-clause-answered g c =
    put_there (λ (reply : Reply). CallAnswered (IsServed g.W.Waiter.silent (g.C.Clock.tells c.args.clock.now) c.args.book.now.opening)
    c.args.pass.now c.begin_start.new.pass (asks.Call c.args.request) reply) c.put.new.place c.in-Answered.reply c.put.ensures
    (at_once c.args.book.now.opening c.opens.ensures g.W.Waiter.silent (g.C.Clock.tells c.args.clock.now) c.args.pass.now
    c.now-moment.result c.now-moment.ensures c.args.request
    c.begin_start.new.pass c.in-Answered.reply c.in-Answered.ensures.starts)

pub returns-in-Waiting-clause-caller : goal.returns-in-Waiting-clause-caller
returns-in-Waiting-clause-caller g c =
    ended_caller g.W.Waiter.silent (g.C.Clock.tells c.args.clock.now) c.args.book.now.opening c.in-Waiting.plan c.begin_start.new.pass
    c.wait-reply.result c.wait-reply.new.pass c.wait-reply.ensures.ends
    ∙ c.in-Waiting.ensures.starts.made.made.caller

pub returns-in-Waiting-clause-answered : goal.returns-in-Waiting-clause-answered
returns-in-Waiting-clause-answered g c =
    put_there (λ (reply : Reply). CallAnswered (IsServed g.W.Waiter.silent (g.C.Clock.tells c.args.clock.now) c.args.book.now.opening)
    c.args.pass.now c.wait-reply.new.pass (asks.Call c.args.request) reply) c.put-in-Waiting.new.place c.wait-reply.result
    c.put-in-Waiting.ensures
    (waited_for c.args.book.now.opening c.opens.ensures g.W.Waiter.silent
    (g.C.Clock.tells c.args.clock.now) c.args.pass.now c.now-moment.result c.now-moment.ensures c.args.request
    c.begin_start.new.pass c.wait-reply.new.pass c.in-Waiting.plan c.wait-reply.result c.requires.start c.in-Waiting.ensures.starts.made
    c.wait-reply.ensures.ends)

pub returns-in-Unmade-clause-full : goal.returns-in-Unmade-clause-full
returns-in-Unmade-clause-full g c = λ full.
    full_now c.args.book.now.opening c.args.pass.now c.begin_start.new.pass c.args.request c.in-Unmade.fault c.in-Unmade.ensures.starts
    c.unanswered.result c.unanswered.ensures full
