use Rattle.scm_core.proofs.effect.change_of_call.Goals as goal

pub returns-in-Create : goal.returns-in-Create
returns-in-Create c = rw (c.in-Create.is, ← c.deref.ensures, ← c.limits.ensures) c.created.ensures
