use Rattle.std.proofs.Common.{◌∙◌, ◌+◌, ℕ, ap}
use Rattle.scm_tables.proofs.Numbered.{active_number, in_order, indexed, naming_number}
use Rattle.scm_tables.proofs.tables.Tables.active_needing.Goals as goal

pub returns-clause-active : goal.returns-clause-active
returns-clause-active g c =
    c.active_dependents.ensures.active
    ∙ active_number c.args.self.now.flat.services (in_order c.self.invariant c.self.view_is) c.self.inside.index.rows c.args.service
    (indexed c.self.invariant c.self.view_is)

pub returns-clause-looks : goal.returns-clause-looks
returns-clause-looks g c =
    c.active_dependents.ensures.looks
    ∙ ap (λ (n : ℕ). c.args.steps.now + n) (naming_number c.self.inside.index.rows c.args.self.now.flat.services c.args.service
    (indexed c.self.invariant c.self.view_is))
