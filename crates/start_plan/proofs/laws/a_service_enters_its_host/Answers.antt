use Rattle.start_plan.proofs.Hosting.{enters_its_host}
use Rattle.start_plan.proofs.laws.a_service_enters_its_host.Goals as goal

pub returns : goal.returns
returns c = enters_its_host
