use Rattle.std.proofs.Common.{ℕ, ◌≡◌, ◌<◌, ◌≤◌, arith, refl, subst, sym}
use Rattle.std.specs.Prelude.{All}
use Rattle.scm_model.specs.declared.flat.Plan.{Plan}
use Rattle.scm_tables.specs.Tabled.{Tabled}
use Rattle.scm_tables.proofs.Keeping.{all_below, kept_more, other_plans}
use Rattle.scm_tables.proofs.Placed.{deadline_keeps, one_fewer, within}
use Rattle.scm_tables.proofs.tables.Tables.put_plan.Goals as goal

pub begin-requires-clause-above : goal.begin-requires-clause-above
begin-requires-clause-above c =
    let number = subst (λ (t : Tabled). c.args.plan.number ≡ t.flat.next.plan) (sym c.self.view_is) c.requires.number in
    subst (λ (n : ℕ). All (λ (plan : Plan). plan.number < n) c.self.inside.plans.plans) (sym number)
    (all_below _ _ c.self.invariant.plans)

pub push-number-requires-clause-room : goal.push-number-requires-clause-room
push-number-requires-clause-room c =
    let room = subst (λ (t : Tabled). 1 ≤ t.spare.dues) (sym c.self.view_is) c.requires.dues in
    let all = within c.self.inside.services.services c.self.inside.dues.rows c.self.invariant.dues.one in
    omega (arith, room, all)

pub invariant_of-self : goal.invariant_of-self
invariant_of-self c =
    let kept = c.self.invariant in
    let room = subst (λ (t : Tabled). 1 ≤ t.spare.dues) (sym c.self.view_is) c.requires.dues in
    let number = subst (λ (t : Tabled). c.args.plan.number ≡ t.flat.next.plan) (sym c.self.view_is) c.requires.number in
    other_plans kept refl refl refl refl refl refl refl refl refl refl refl (rw c.begin.ensures.plans
    (kept_more _ _ _ kept.plans number c.requires.undecided))
    (rw c.begin.ensures.awaited kept.pending)
    (rw c.push-number.ensures.after (deadline_keeps _ (λ n. refl) kept.dues (omega (arith, room))))

pub returns-clause-dues : goal.returns-clause-dues
returns-clause-dues c =
    let room = subst (λ (t : Tabled). 1 ≤ t.spare.dues) (sym c.self.view_is) c.requires.dues in
    rw (← c.self.view_is, c.push-number.ensures.after) (one_fewer c.self.inside.services.services c.self.inside.dues.rows _ _ _ _ room)
