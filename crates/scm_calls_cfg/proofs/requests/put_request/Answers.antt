use Rattle.scm_calls_cfg.proofs.requests.put_request.Goals as goal

pub returns-in-Change : goal.returns-in-Change
returns-in-Change c = rw (c.in-Change.is, ← c.deref.ensures) c.put_change.ensures

pub returns-in-Create : goal.returns-in-Create
returns-in-Create c = rw (c.in-Create.is, ← c.deref-in-Create.ensures) c.put_new.ensures
