use Rattle.dependency_index.proofs.Reaching.{no_name}
use Rattle.dependency_index.proofs.dependents.named_as.Goals as goal

pub returns-in-Group-clause-numbers : goal.returns-in-Group-clause-numbers
returns-in-Group-clause-numbers c = rw c.in-Group.is (no_name c.in-Group.field-0 c.args.index.now.rows)
