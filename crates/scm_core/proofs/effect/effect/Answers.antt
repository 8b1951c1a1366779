use Rattle.scm_core.proofs.effect.effect.Goals as goal

pub call-requires-clause-made : goal.call-requires-clause-made
call-requires-clause-made c = rw c.in-Call.is at c.requires.made

pub call-requires-clause-room : goal.call-requires-clause-room
call-requires-clause-room c = rw c.in-Call.is at c.requires.room

pub returns-in-Call-clause-answer : goal.returns-in-Call-clause-answer
returns-in-Call-clause-answer c = rw c.in-Call.is c.call.ensures.answer

pub returns-in-Call-clause-flat : goal.returns-in-Call-clause-flat
returns-in-Call-clause-flat c = rw c.in-Call.is c.call.ensures.flat

pub effect_other-requires-clause-other : goal.effect_other-requires-clause-other
effect_other-requires-clause-other c = c.in_default.not-Call
