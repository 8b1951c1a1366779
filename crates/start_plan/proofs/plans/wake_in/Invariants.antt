use Rattle.std.proofs.Common.{◌≡◌, ◌++◌, map, take, drop}
use Rattle.start_plan.specs.Asleep.{woken}
use Rattle.start_plan.proofs.plans.wake_in.Given as goal

-- the plans so far are woken, and the others as they were
abbrev pub invariant-loop-slot : goal.invariant-loop-slot
invariant-loop-slot l =
    l.slot-items ≡ map (woken l.service) (take l.slot-index l.initial.slot-items) ++ drop l.slot-index l.initial.slot-items
