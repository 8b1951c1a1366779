use Rattle.scm_generate.proofs.Whole.{ample_made}
use Rattle.scm_generate.proofs.generating.generate.Goals as goal

pub returns-in-Ok-write_all-clause-can : goal.returns-in-Ok-write_all-clause-can
returns-in-Ok-write_all-clause-can g c = ample_made c.args.limits c.args.services c.requires.ample c.requires.few

pub returns-clause-can : goal.returns-clause-can
returns-clause-can g c = ample_made c.args.limits c.args.services c.requires.ample c.requires.few
