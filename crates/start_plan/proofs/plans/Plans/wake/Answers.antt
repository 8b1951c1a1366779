use Rattle.std.proofs.Common.{◌≡◌, ◌∙◌, List, ap, subst, sym}
use Rattle.scm_model.specs.declared.flat.Plan.{Plan}
use Rattle.start_plan.specs.Asleep.{all_but, plans_in}
use Rattle.start_plan.specs.Planned.{IsRising, Planned, plan_numbers}
use Rattle.start_plan.proofs.Slots.{plans_woken, awaited_woken}
use Rattle.start_plan.proofs.plans.Plans.wake.Goals as goal

same : (c : goal.After-wake_in) → plans_in c.wake_in.new.slots.items ≡ plans_in c.self.inside.slots.items
same c = ap plans_in c.wake_in.ensures.slots ∙ plans_woken c.args.service c.self.inside.slots.items

pub invariant_of-self : goal.invariant_of-self
invariant_of-self c = subst (λ (rows : List Plan). IsRising (plan_numbers rows)) (sym (same c)) c.self.invariant

pub returns-clause-plans : goal.returns-clause-plans
returns-clause-plans c = same c ∙ ap (λ (p : Planned). p.plans) c.self.view_is

pub returns-clause-awaited : goal.returns-clause-awaited
returns-clause-awaited c = rw c.wake_in.ensures.slots (awaited_woken c.args.service c.self.inside.slots.items)
    ∙ ap (λ (p : Planned). all_but c.args.service p.awaited) c.self.view_is
