use Rattle.std.proofs.Common.{ap, subst, sym, ◌∙◌}
use Rattle.scm_rules.specs.Verdicts.{change_of}
use Rattle.scm_core.specs.Inside.{promised}
use Rattle.scm_core.specs.Managed.{Managed, WasMadeFor}
use Rattle.scm_core.proofs.Beforehand.{made_before}
use Rattle.scm_core.proofs.manager.Manager.change_made.Goals as goal

pub returns : goal.returns
returns c =
    let inside = c.self.inside in
    c.change_in.ensures
    ∙ made_before inside.tables.limits inside.tables.flat inside.made (promised inside.room) c.args.step.now c.self.invariant.made
    (subst (λ (m : Managed). WasMadeFor m.room c.args.step.now) (sym c.self.view_is) c.requires)
    ∙ ap (λ (m : Managed). change_of m.limits m.flat c.args.step.now) c.self.view_is
