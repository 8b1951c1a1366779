use Rattle.dependency_index.proofs.Lists.{number_listed}
use Rattle.dependency_index.proofs.graph.Graph.number_at.Goals as goal

pub returns-clause-listed : goal.returns-clause-listed
returns-clause-listed g c = number_listed c.args.self.now c.args.place c.any_number.result c.any_number.ensures
