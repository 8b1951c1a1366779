use Rattle.scm_tables.proofs.NeedRows.{found_free}
use Rattle.scm_tables.proofs.depending.has_no_cycle.Goals as goal

pub returns-clause-free : goal.returns-clause-free
returns-clause-free c = found_free c.is_cyclic.result c.args.index.now.rows c.is_cyclic.ensures
