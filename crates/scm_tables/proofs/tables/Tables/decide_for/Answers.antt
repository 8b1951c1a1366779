use Rattle.std.proofs.Common.{ℕ, ◌∙◌, List, ap, refl}
use Rattle.scm_model.specs.Processes.{currents_in}
use Rattle.start_plan.specs.Decided.{aims_among, decided_in}
use Rattle.scm_tables.proofs.Keeping.{all_stay, kept_decided, other_plans}
use Rattle.scm_tables.proofs.tables.Tables.decide_for.Goals as goal

pub decide_each-requires : goal.decide_each-requires
decide_each-requires c = all_stay _ _ c.self.invariant.plans

pub invariant_of-self : goal.invariant_of-self
invariant_of-self c =
    let plans = c.self.inside.plans.plans in
    let decided = c.decide_each.ensures.plans
    ∙ ap (λ (ns : List ℕ). decided_in (aims_among ns) c.args.code plans) c.of_process.ensures in
    other_plans c.self.invariant refl refl refl refl refl refl refl refl refl refl refl
    (rw decided (kept_decided _ (aims_among (currents_in c.args.process c.self.inside.services.services)) c.args.code _
    c.self.invariant.plans))
    (c.decide_each.ensures.awaited c.self.inside.services.services c.self.invariant.pending) c.self.invariant.dues

pub returns-clause-flat : goal.returns-clause-flat
returns-clause-flat c = rw (← c.self.view_is, c.decide_each.ensures.plans, c.of_process.ensures) refl
