use Rattle.scm_generate.proofs.Whole.{ample_legal, ample_made}
use Rattle.scm_generate.proofs.laws.the_list_is_legal.Goals as goal

pub returns-clause-legal : goal.returns-clause-legal
returns-clause-legal c = ample_legal c.args.limits.now c.args.services c.requires.limits c.requires.few

pub returns-clause-can : goal.returns-clause-can
returns-clause-can c = ample_made c.args.limits.now c.args.services c.requires.limits c.requires.few
