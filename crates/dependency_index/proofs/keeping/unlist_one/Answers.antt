use Rattle.number_lists.specs.Rising.{without_number}
use Rattle.dependency_index.proofs.Shelves.{turned}
use Rattle.dependency_index.proofs.keeping.unlist_one.Goals as goal

pub returns-in-Service-clause-at : goal.returns-in-Service-clause-at
returns-in-Service-clause-at c = rw c.in-Service.is (turned c.args.lists.now c.remove.new.self c.in-Service.name
    (λ numbers. without_number numbers c.args.number) c.remove.ensures.changes)
