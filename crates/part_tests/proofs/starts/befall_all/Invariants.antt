use Rattle.start_plan.specs.Asleep.{ArePending}
use Rattle.part_tests.proofs.starts.befall_all.Given as goal

-- plans sleep only for services whose state is about to change
abbrev pub invariant-loop-event : goal.invariant-loop-event
invariant-loop-event l = ArePending l.bench.0.services l.plans.awaited
