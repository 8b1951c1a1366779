use Rattle.std.proofs.Common.{refl}
use Rattle.scm_tables.proofs.Keeping.{other_processes}
use Rattle.scm_tables.proofs.tables.Tables.control.Goals as goal

pub returns-clause-flat : goal.returns-clause-flat
returns-clause-flat c = rw (← c.self.view_is, c.control.ensures) refl

pub invariant_of-self : goal.invariant_of-self
invariant_of-self c = other_processes c.self.invariant c.control.new.self c.control.ensures refl refl
