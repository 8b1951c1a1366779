use Rattle.std.proofs.Common.{◌∙◌, ap}
use Rattle.scm_model.specs.Order.{is_cyclic}
use Rattle.dependency_index.proofs.Cycles.{told}
use Rattle.scm_tables.proofs.depending.is_cyclic.Goals as goal

pub returns : goal.returns
returns c = told c.has_cycle.result c.of.result c.has_cycle.ensures.no c.has_cycle.ensures.yes ∙ ap is_cyclic c.of.ensures
