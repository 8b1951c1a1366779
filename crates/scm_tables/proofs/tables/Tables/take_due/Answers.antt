use Rattle.std.proofs.Common.{refl}
use Rattle.scm_tables.proofs.Keeping.{other_plans}
use Rattle.scm_tables.proofs.Placed.{left_free, left_keeps_places}
use Rattle.scm_tables.proofs.tables.Tables.take_due.Goals as goal

pub invariant_of-self : goal.invariant_of-self
invariant_of-self c =
    let kept = c.self.invariant in
    other_plans kept refl refl refl refl refl refl refl refl refl refl refl kept.plans kept.pending
    (rw c.take_due.ensures.rest (left_keeps_places c.take_due.result c.self.inside.services.services c.self.inside.dues kept.dues))

pub returns-clause-dues : goal.returns-clause-dues
returns-clause-dues c = rw (← c.self.view_is, c.take_due.ensures.rest) (left_free c.take_due.result c.self.inside.services.services
    c.self.inside.dues)
