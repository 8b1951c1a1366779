use Rattle.start_plan.proofs.Fewer.{pending_rests}
use Rattle.start_plan.proofs.laws.what_is_pending_rests.Goals as goal

pub returns : goal.returns
returns c = pending_rests
