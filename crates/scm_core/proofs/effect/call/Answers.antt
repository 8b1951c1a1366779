use Rattle.scm_core.proofs.effect.call.Goals as goal

pub call_other-requires-clause-other : goal.call_other-requires-clause-other
call_other-requires-clause-other c = c.in_default.not-QueryStatus

pub returns-in-QueryStatus-clause-answer : goal.returns-in-QueryStatus-clause-answer
returns-in-QueryStatus-clause-answer c = rw c.in-QueryStatus.is c.answer_status.ensures.answer

pub returns-in-QueryStatus-clause-flat : goal.returns-in-QueryStatus-clause-flat
returns-in-QueryStatus-clause-flat c = rw c.in-QueryStatus.is c.answer_status.ensures.flat
