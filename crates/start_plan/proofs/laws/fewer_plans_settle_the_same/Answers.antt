use Rattle.start_plan.proofs.Fewer.{enough}
use Rattle.start_plan.proofs.laws.fewer_plans_settle_the_same.Goals as goal

pub returns : goal.returns
returns c = enough
