use Rattle.std.proofs.Common.{◌≡◌, ◌+◌, ◌-◌, ◌≤◌, ◌^◌, drop, min}
use Rattle.start_plan.specs.Owed.{owed_by_plan, total}
use Rattle.start_plan.specs.Asleep.{plans_in}
use Rattle.start_plan.proofs.plans.owed_in.Given as goal

-- what was counted, and the plans that are left
abbrev pub invariant-loop-slot : goal.invariant-loop-slot
invariant-loop-slot l = record {
  counted : min (l.owed + total owed_by_plan (plans_in (drop l.slot-index l.slots))) (2 ^ 64 - 1) ≡ min
      (total owed_by_plan (plans_in l.slots)) (2 ^ 64 - 1);
  most : l.owed ≤ 2 ^ 64 - 1;
}
