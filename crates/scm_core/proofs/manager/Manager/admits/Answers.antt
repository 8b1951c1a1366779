use Rattle.std.proofs.Common.{◌∙◌, ◌&&◌, Bool, ap, subst, sym}
use Rattle.scm_rules.specs.Steps.{keeps_right}
use Rattle.scm_core.specs.Inside.{promised}
use Rattle.scm_core.specs.Managed.{Managed, WasMadeFor}
use Rattle.scm_core.proofs.Beforehand.{told_made}
use Rattle.scm_core.proofs.manager.Manager.admits.Goals as goal

pub returns-then-may : goal.returns-then-may
returns-then-may c =
    let inside = c.self.inside in
    c.is_told.ensures
    ∙ told_made inside.tables.limits inside.tables.flat inside.made (promised inside.room) c.args.step.now c.self.invariant.made
    (subst (λ (m : Managed). WasMadeFor m.room c.args.step.now) (sym c.self.view_is) c.requires)
    ∙ ap (λ (m : Managed). keeps_right m.limits m.flat c.args.step.now) c.self.view_is
    ∙ sym (ap (λ (comes : Bool). comes && keeps_right c.args.self.now.limits c.args.self.now.flat c.args.step.now) (sym c.may.ensures
    ∙ c.if-may.true))
