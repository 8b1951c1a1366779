use Rattle.start_plan.proofs.Turning.{decides_at_once}
use Rattle.start_plan.proofs.laws.each_turn_decides_at_once.Goals as goal

pub returns : goal.returns
returns c = decides_at_once
