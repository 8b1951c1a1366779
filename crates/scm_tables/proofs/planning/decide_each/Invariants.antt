use Rattle.std.proofs.Common.{◌≡◌, ◌≤◌, drop, List}
use Rattle.scm_model.specs.declared.flat.Service.{Service}
use Rattle.start_plan.specs.Asleep.{ArePending}
use Rattle.start_plan.specs.Decided.{aims_among, decided_in}
use Rattle.scm_tables.proofs.Deciding.{AllStay, numbers}
use Rattle.scm_tables.proofs.planning.decide_each.Given as goal

-- the targets that are left decide what all decide
abbrev pub invariant-loop-target : goal.invariant-loop-target
invariant-loop-target l = record {
  plans : decided_in (aims_among (numbers (drop l.target-index l.targets))) l.code l.plans.plans
      ≡ decided_in (aims_among (numbers l.targets)) l.code l.fn.plans.plans;
  stay : AllStay l.plans.plans;
  awaited : (rows : List Service) → ArePending rows l.fn.plans.awaited → ArePending rows l.plans.awaited;
  spare : l.fn.plans.spare ≤ l.plans.spare;
}
