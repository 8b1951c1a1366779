use Rattle.std.proofs.Common.{refl}
use Rattle.start_plan.proofs.Pending.{among_pending}
use Rattle.scm_tables.proofs.Keeping.{other_plans}
use Rattle.start_plan.proofs.Keeps.{all_filter}
use Rattle.scm_tables.specs.Inside.{IsKeptPlan}
use Rattle.scm_tables.proofs.tables.Tables.remove_plan.Goals as goal

pub invariant_of-self : goal.invariant_of-self
invariant_of-self c =
    other_plans c.self.invariant refl refl refl refl refl refl refl refl refl refl refl
    (rw c.take-plan.ensures.plans (all_filter (IsKeptPlan c.self.inside.next.plan) _ _ c.self.invariant.plans))
    (among_pending c.self.inside.services.services _ _ c.self.invariant.pending c.take-plan.ensures.awaited) c.self.invariant.dues
