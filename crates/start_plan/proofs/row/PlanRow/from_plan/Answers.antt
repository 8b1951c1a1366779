use Rattle.std.proofs.Common.{arith, sym}
use Rattle.start_plan.proofs.Fronts.{all_untried}
use Rattle.start_plan.proofs.row.PlanRow.from_plan.Goals as goal

pub invariant_of-result : goal.invariant_of-result
invariant_of-result c =
    record {
      at = omega arith;
      left = rw (c.len-left.ensures, c.into_vec.ensures, c.requires.empty) (sym (all_untried c.args.plan.entries));
      room = rw c.len-left.ensures c.requires.room;
    }
