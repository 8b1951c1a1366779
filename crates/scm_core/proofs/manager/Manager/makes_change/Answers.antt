use Rattle.std.proofs.Common.{Option, ap, refl, subst, sym, ◌∙◌, ◌≡◌}
use Rattle.std.specs.Prelude.{is_some, option_map, None, Some}
use Rattle.scm_model.specs.declared.steps.Change.{Change}
use Rattle.scm_rules.specs.Verdicts.{change_of}
use Rattle.scm_core.specs.Inside.{promised}
use Rattle.scm_core.specs.Managed.{Managed, WasMadeFor}
use Rattle.scm_core.proofs.Beforehand.{made_before}
use Rattle.scm_core.proofs.manager.Manager.makes_change.Goals as goal

is_some_mapped : {T U : Type 0} (f : T → U) (found : Option T) → is_some found ≡ is_some (option_map f found)
is_some_mapped f None = refl
is_some_mapped f (Some one) = refl

pub returns : goal.returns
returns c =
    let inside = c.self.inside in
    c.is_some.ensures
    ∙ is_some_mapped (λ lent. lent.now) c.change_in.result
    ∙ ap (λ (change : Option Change). is_some change) (c.change_in.ensures
    ∙ made_before inside.tables.limits inside.tables.flat inside.made (promised inside.room) c.args.step.now c.self.invariant.made
    (subst (λ (m : Managed). WasMadeFor m.room c.args.step.now) (sym c.self.view_is) c.requires))
    ∙ ap (λ (m : Managed). is_some (change_of m.limits m.flat c.args.step.now)) c.self.view_is
