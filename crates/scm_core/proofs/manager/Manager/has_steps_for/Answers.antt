use Rattle.std.proofs.Common.{◌≡◌, ◌-◌, ◌^◌, ap, arith, length}
use Rattle.scm_rules.specs.Owed.{owed}
use Rattle.scm_core.specs.Managed.{Managed}
use Rattle.scm_core.proofs.Needs.{found}
use Rattle.scm_core.proofs.manager.Manager.has_steps_for.Goals as goal

pub returns : goal.returns
returns c =
    let m = c.args.self.now in
    let steps : c.self.inside.steps ≡ m.steps = ap (λ (m : Managed). m.steps) c.self.view_is in
    rw (c.saturating_add.ensures, c.requires, c.need_of.ensures, c.most_steps.ensures, steps)
    (found m.steps (owed m.flat) (length m.flat.services) m.limits.steps (2 ^ 64 - 1) (2 ^ 128 - 1) c.args.step.now
    (omega (arith, c.most_steps.ensures, c.most_steps.type_inv)) (omega arith))
