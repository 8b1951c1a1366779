use Rattle.std.proofs.Common.{◌≡◌, ◌+◌, [], arith, min, subst}
use Rattle.std.proofs.lemmas.List.{drop_all}
use Rattle.start_plan.specs.Asleep.{plans_in}
use Rattle.start_plan.specs.Owed.{owed_by_plan, total}
use Rattle.start_plan.proofs.plans.owed_in.Goals as goal

pub returns : goal.returns
returns c =
    let all = total owed_by_plan (plans_in c.args.slots.now) in
    let done : min (c.loop-slot.owed + total owed_by_plan []) 18446744073709551615 ≡ min all 18446744073709551615 =
    subst (λ slots. min (c.loop-slot.owed + total owed_by_plan (plans_in slots)) 18446744073709551615 ≡ min all 18446744073709551615)
    (drop_all c.loop-slot.slot-index c.args.slots.now c.loop-slot-test.false) c.loop-slot.invariant.counted in
    omega (arith, done, c.loop-slot.invariant.most)
