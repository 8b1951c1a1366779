use Rattle.std.proofs.Common.{arith}
use Rattle.std.proofs.lemmas.List.Edits.{map_over_more}
use Rattle.start_plan.specs.Asleep.{runnable}
use Rattle.start_plan.proofs.plans.wake_each.Goals as goal

pub loop-slot-preserved : goal.loop-slot-preserved
loop-slot-preserved c =
    rw (← c.slot-item.is)
    (map_over_more runnable c.deref_mut-slot-items.result.now c.loop-slot.slot-items c.loop-slot.slot-index c.slot-item.result
    (omega arith) c.loop-slot.invariant c.slot-item.is)
