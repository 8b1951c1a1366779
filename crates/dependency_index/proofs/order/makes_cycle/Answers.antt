use Rattle.std.proofs.Common.{◌∙◌, ap}
use Rattle.scm_model.specs.Order.{is_cyclic}
use Rattle.dependency_index.proofs.Cycles.{told}
use Rattle.dependency_index.proofs.order.makes_cycle.Goals as goal

pub returns : goal.returns
returns g c = told c.has_cycle.result c.with.result c.has_cycle.ensures.no c.has_cycle.ensures.yes ∙ ap is_cyclic c.with.ensures
