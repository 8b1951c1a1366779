use Rattle.start_plan.proofs.Turning.{decides_the_hosted}
use Rattle.start_plan.proofs.laws.what_aims_at_the_hosted_is_decided.Goals as goal

pub returns : goal.returns
returns c = decides_the_hosted
