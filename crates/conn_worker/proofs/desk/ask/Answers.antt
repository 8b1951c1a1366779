use Rattle.conn_worker.proofs.Answering.{at_once_in, full_now, told_caller}
use Rattle.conn_worker.proofs.desk.ask.Goals as goal

pub returns-in-Ok-clause-caller : goal.returns-in-Ok-clause-caller
returns-in-Ok-clause-caller g c =
    told_caller c.args.book.now.opening c.args.pass.now c.call_into.new.pass c.now-moment.result c.args.request c.call_into.new.answer
    c.in-Ok.ensures.calls

pub returns-in-Ok-clause-answered : goal.returns-in-Ok-clause-answered
returns-in-Ok-clause-answered g c =
    at_once_in c.args.book.now.opening c.opens.ensures g.W.Waiter.silent (g.C.Clock.tells c.args.clock.now) c.args.pass.now
    c.now-moment.result c.now-moment.ensures c.args.request c.call_into.new.pass c.call_into.new.answer c.in-Ok.ensures.calls

pub returns-in-Err-clause-full : goal.returns-in-Err-clause-full
returns-in-Err-clause-full g c = λ full.
    full_now c.args.book.now.opening c.args.pass.now c.call_into.new.pass c.args.request c.in-Err.fault c.in-Err.ensures.calls
    c.unanswered.result c.unanswered.ensures full
