use Rattle.std.proofs.Common.{refl, ◌∙◌, ap, sym, subst, filter, List}
use Rattle.std.specs.List.{AllByRecursion}
use Rattle.scm_model.specs.declared.flat.Due.{Due}
use Rattle.scm_model.specs.declared.flat.Flat.{Flat}
use Rattle.scm_model.specs.declared.flat.Plan.{Plan}
use Rattle.start_plan.specs.Asleep.{ArePending}
use Rattle.start_plan.specs.Planned.{Planned}
use Rattle.start_plan.specs.Settle.{is_due_still, settled, with_plans}
use Rattle.scm_tables.specs.Inside.{IsKeptPlan, tabled}
use Rattle.scm_tables.specs.Tabled.{Tabled}
use Rattle.scm_tables.proofs.Keeping.{kept_settled, other_plans, next_settled, settles}
use Rattle.scm_tables.proofs.Placed.{filter_keeps}
use Rattle.scm_tables.proofs.tables.Tables.settle.Goals as goal

pub returns-clause-flat : goal.returns-clause-flat
returns-clause-flat c =
    let l = c.self.inside.limits in
    let f = with_plans (tabled c.self.inside).flat c.replace-plans.new.dest.plans in
    let old = c.self.inside.plans.plans in
    let was = ap (λ (p : Planned). p.plans) c.replace-plans.ensures.value in
    let rows = filter (λ (due : Due). is_due_still c.settle.new.self.plans due.kind) c.self-2.inside.dues.rows in
    rw c.keep_due.ensures (ap (λ (t : Tabled). record t.flat { plans = c.settle.new.self.plans; dues = rows }) c.self-2.view_is
    ∙ settles l f c.settle.new.field.flat c.replace-plans.result.plans c.settle.new.self.plans rows c.settle.ensures.plans
    c.settle.ensures.flat
    (ap (λ (t : Tabled). filter (λ (due : Due). is_due_still c.settle.new.self.plans due.kind) t.flat.dues) c.self-2.view_is)
    ∙ ap (λ (ps : List Plan). settled l (with_plans f ps)) was
    ∙ ap (λ (t : Tabled). settled t.limits t.flat) c.self.view_is)

pub invariant_of-self-2 : goal.invariant_of-self-2
invariant_of-self-2 c =
    let kept = c.self-2.invariant in
    let l = c.self.inside.limits in
    let f = with_plans (tabled c.self.inside).flat c.replace-plans.new.dest.plans in
    let was = ap (λ (p : Planned). p.plans) c.replace-plans.ensures.value in
    let next = ap (λ (t : Tabled). t.flat.next.plan) c.self-2.view_is ∙ ap (λ (g : Flat). g.next.plan) c.settle.ensures.flat
    ∙ next_settled l f c.replace-plans.result.plans in
    let below = kept_settled l f c.self.inside.next.plan c.replace-plans.result.plans
    (subst (λ (ps : List Plan). AllByRecursion (IsKeptPlan c.self.inside.next.plan) ps) (sym was) c.self.invariant.plans) in
    other_plans kept refl refl refl refl refl refl refl refl refl refl refl
    (subst (λ n. AllByRecursion (IsKeptPlan n) c.settle.new.self.plans) (sym next)
    (subst (λ (ps : List Plan). AllByRecursion (IsKeptPlan c.self.inside.next.plan) ps) (sym c.settle.ensures.plans) below))
    (subst (λ (t : Tabled). ArePending t.flat.services c.settle.new.self.awaited) (sym c.self-2.view_is) c.settle.ensures.pending)
    (rw c.keep_due.ensures (filter_keeps _ kept.dues))
