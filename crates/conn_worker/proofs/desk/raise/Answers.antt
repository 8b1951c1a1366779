use Rattle.conn_worker.proofs.Answering.{a_code, raise_answered, raise_full, raised_caller}
use Rattle.conn_worker.proofs.desk.raise.Goals as goal

pub code_of-requires : goal.code_of-requires
code_of-requires g c =
    a_code c.args.book.now.opening c.args.pass.now c.raise.new.pass c.now-moment.result c.args.subtype c.in-Answered.told
    c.in-Answered.ensures.raises

pub returns-in-Answered-clause-caller : goal.returns-in-Answered-clause-caller
returns-in-Answered-clause-caller g c =
    raised_caller c.args.book.now.opening c.args.pass.now c.raise.new.pass c.now-moment.result c.args.subtype c.in-Answered.told
    c.in-Answered.ensures.raises

pub returns-in-Answered-clause-answered : goal.returns-in-Answered-clause-answered
returns-in-Answered-clause-answered g c =
    raise_answered (g.C.Clock.tells c.args.clock.now) c.args.book.now.opening c.args.pass.now c.raise.new.pass c.now-moment.result
    c.now-moment.ensures c.args.subtype
    c.in-Answered.told c.code_of.result c.code_of.ensures c.in-Answered.ensures.raises

pub returns-in-Unmade-clause-full : goal.returns-in-Unmade-clause-full
returns-in-Unmade-clause-full g c = λ full.
    raise_full c.args.book.now.opening c.args.pass.now c.raise.new.pass c.args.subtype c.in-Unmade.fault c.in-Unmade.ensures.raises
    c.unanswered.result c.unanswered.ensures full
