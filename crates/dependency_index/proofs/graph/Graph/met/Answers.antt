use Rattle.std.proofs.Common.{rules}
use Rattle.dependency_index.proofs.Splitting.{some_listed}
use Rattle.dependency_index.proofs.graph.Graph.met.Goals as goal

pub returns-in-Some-clause-listed : goal.returns-in-Some-clause-listed
returns-in-Some-clause-listed g c = some_listed _ c.args.need.now _ (search rules)

pub returns-in-None-clause-listed : goal.returns-in-None-clause-listed
returns-in-None-clause-listed g c = some_listed _ c.args.need.now _ (search rules)
