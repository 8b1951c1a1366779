use Rattle.dependency_index.proofs.Lists.{met_listed}
use Rattle.dependency_index.proofs.graph.Graph.met_at.Goals as goal

pub returns-clause-listed : goal.returns-clause-listed
returns-clause-listed g c = met_listed c.args.self.now c.args.need.now c.args.place c.any_met.result c.any_met.ensures
