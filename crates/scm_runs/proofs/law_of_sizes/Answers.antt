use Rattle.std.proofs.Common.{sym, subst}
use Rattle.std.specs.Prelude.{All}
use Rattle.scm_model.specs.declared.flat.Flat.{Flat}
use Rattle.scm_runs.specs.Sizes.{IsToldWhole}
use Rattle.scm_runs.proofs.Along.{at_end}
use Rattle.scm_runs.proofs.Calls.{keeps}
use Rattle.scm_runs.proofs.Histories.{state_is}
use Rattle.scm_runs.proofs.Sizes.{told_whole}
use Rattle.scm_runs.proofs.Sound.{Sound, begun}
use Rattle.scm_runs.proofs.law_of_sizes.Goals as goal

pub returns : goal.returns
returns c =
    let l = c.args.limits.now in
    let f = c.args.opening.now in
    let es = c.args.steps.now in
    subst (λ (g : Flat). All IsToldWhole g.services) (sym (state_is l f es))
    (told_whole _ (at_end Sound l (keeps l) f es (begun l f c.requires.begins) c.requires.legal))
