use Rattle.std.proofs.Common.{◌≡◌, ◌++◌, map, take, drop}
use Rattle.start_plan.specs.Asleep.{runnable}
use Rattle.start_plan.proofs.plans.wake_each.Given as goal

-- the plans so far are woken, and the others as they were
abbrev pub invariant-loop-slot : goal.invariant-loop-slot
invariant-loop-slot l =
    l.slot-items ≡ map runnable (take l.slot-index l.initial.slot-items) ++ drop l.slot-index l.initial.slot-items
