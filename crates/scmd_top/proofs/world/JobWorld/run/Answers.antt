use Rattle.scmd_top.proofs.world.JobWorld.run.Goals as goal

pub returns-in-Serve-clause-complete : goal.returns-in-Serve-clause-complete
returns-in-Serve-clause-complete g c = rw c.in-Serve.is c.serve.ensures.complete
