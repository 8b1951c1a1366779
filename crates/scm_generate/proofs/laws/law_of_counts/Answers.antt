use Rattle.scm_generate.proofs.Counts.{all_launches, all_steps}
use Rattle.scm_generate.proofs.laws.law_of_counts.Goals as goal

pub returns-clause-steps : goal.returns-clause-steps
returns-clause-steps c = all_steps c.args.services

pub returns-clause-launches : goal.returns-clause-launches
returns-clause-launches c = all_launches c.args.services
