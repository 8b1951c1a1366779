use Rattle.std.proofs.Common.{◌∙◌, Option, ap, sym}
use Rattle.scm_model.specs.declared.flat.Due.{Due}
use Rattle.scm_model.specs.Found.{if_found}
use Rattle.scm_rules.specs.Ticks.{fired}
use Rattle.scm_tables.proofs.Fired.{none_due, none_fired}
use Rattle.scm_tables.proofs.tables.Tables.tick.Goals as goal

pub returns-then-not-fire_first-clause-flat : goal.returns-then-not-fire_first-clause-flat
returns-then-not-fire_first-clause-flat c =
    let l = c.loop-left.self.limits in
    let f = c.loop-left.self.flat in
    let none = none_due f (sym c.fire_first.ensures.any ∙ c.if-not-fire_first.true) in
    c.fire_first.ensures.flat ∙ ap (λ (o : Option Due). if_found (fired l) o f) none ∙ sym (none_fired l c.loop-left.left f none)
    ∙ c.loop-left.invariant.whole
