use Rattle.std.proofs.Common.{◌≡◌, drop}
use Rattle.start_plan.specs.Decided.{is_any_undecided}
use Rattle.start_plan.specs.Asleep.{plans_in}
use Rattle.start_plan.proofs.plans.is_any_undecided.Given as goal

-- the plans that are left decide
abbrev pub invariant-loop-slot : goal.invariant-loop-slot
invariant-loop-slot l = is_any_undecided (plans_in l.slots) ≡ is_any_undecided (plans_in (drop l.slot-index l.slots))
