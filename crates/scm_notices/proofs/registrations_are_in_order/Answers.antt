use Rattle.std.proofs.Common.{sym, subst}
use Rattle.std.specs.Prelude.{All}
use Rattle.scm_model.specs.declared.flat.Flat.{Flat}
use Rattle.scm_runs.proofs.Along.{at_end}
use Rattle.scm_runs.proofs.Histories.{state_is}
use Rattle.scm_notices.specs.Notices.{IsInOrder}
use Rattle.scm_notices.proofs.InOrder.{Ordered, ordered_begun, ordered_keeps}
use Rattle.scm_notices.proofs.registrations_are_in_order.Goals as goal

pub returns : goal.returns
returns c =
    let l = c.args.limits.now in
    let f = c.args.opening.now in
    let es = c.args.steps.now in
    subst (λ (g : Flat). All IsInOrder g.registrations) (sym (state_is l f es))
    (at_end Ordered l (ordered_keeps l) f es (ordered_begun l f c.requires.begins) c.requires.legal).ordered
