use Rattle.std.proofs.Common.{◌≡◌, ◌∙◌, List, ℕ, subst}
use Rattle.std.specs.Prelude.{IfOk}
use Rattle.scm_model.specs.declared.flat.Config.{Config}
use Rattle.scm_core.specs.Managed.{Managed}
use Rattle.scm_rules.specs.Opening.{opening}
use Rattle.trail_export.proofs.beginning.manager_from.Goals as goal

pub new-requires-clause-configs : goal.new-requires-clause-configs
new-requires-clause-configs c = rw (c.in-Ok.ensures, c.as_slice-2.ensures) c.requires.can

pub returns-in-Ok-clause-flat : goal.returns-in-Ok-clause-flat
returns-in-Ok-clause-flat c =
    let o = c.args.opening.now in
    subst (λ (configs : List Config). IfOk c.new.result (λ (m : Managed). m.flat ≡ opening o.limits o.groups configs o.moment))
    (c.in-Ok.ensures ∙ c.as_slice-2.ensures)
    (subst (λ (groups : List (List ℕ)). IfOk c.new.result (λ (m : Managed). m.flat ≡ opening o.limits groups c.in-Ok.configs o.moment))
    (c.in_ok-groups.ensures ∙ c.as_slice.ensures) c.new.ensures.flat)
