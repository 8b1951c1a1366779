use Rattle.std.proofs.Common.{refl}
use Rattle.scm_tables.proofs.Keeping.{other_processes}
use Rattle.scm_tables.proofs.tables.Tables.launch.Goals as goal

pub returns-clause-flat : goal.returns-clause-flat
returns-clause-flat c = rw (← c.self.view_is, c.launch.ensures) refl

pub invariant_of-self : goal.invariant_of-self
invariant_of-self c = other_processes c.self.invariant c.launch.new.self c.launch.ensures refl refl
