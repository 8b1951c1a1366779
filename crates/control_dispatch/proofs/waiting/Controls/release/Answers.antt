use Rattle.std.proofs.Common.{◌∙◌, ◌==◌, List, ap, filter, not, rules}
use Rattle.arrayvec.proofs.ArrayVecLemmas.{filter-from_retain}
use Rattle.scm_model.specs.declared.flat.Order.{Order}
use Rattle.control_dispatch.proofs.waiting.Controls.release.Goals as goal

pub returns : goal.returns
returns c =
    filter-from_retain _ _ _ (λ x b f' y called. search rules) _ _ c.retain.ensures.filtered
    ∙ ap (λ (orders : List Order). filter (λ (order : Order). not (order.service == c.args.service)) orders) c.self.view_is
