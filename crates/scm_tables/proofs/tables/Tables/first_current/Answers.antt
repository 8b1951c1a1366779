use Rattle.scm_tables.proofs.Numbered.{in_order}
use Rattle.scm_tables.proofs.tables.Tables.first_current.Goals as goal

pub returns-clause-rising : goal.returns-clause-rising
returns-clause-rising c = in_order c.self.invariant c.self.view_is
