use Rattle.std.proofs.Common.{arith}
use Rattle.std.proofs.lemmas.List.Edits.{map_over_more}
use Rattle.start_plan.specs.Asleep.{woken}
use Rattle.start_plan.proofs.plans.wake_in.Goals as goal

pub loop-slot-preserved : goal.loop-slot-preserved
loop-slot-preserved c =
    rw (c.wake.ensures, ← c.slot-item.is)
    (map_over_more (woken c.args.service) c.deref_mut-slot-items.result.now c.loop-slot.slot-items c.loop-slot.slot-index c.slot-item.result
    (omega arith) c.loop-slot.invariant c.slot-item.is)
