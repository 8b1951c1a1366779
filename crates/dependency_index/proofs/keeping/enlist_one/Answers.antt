use Rattle.number_lists.proofs.Same.{same_laws}
use Rattle.number_lists.specs.Rising.{with_number}
use Rattle.dependency_index.proofs.Shelves.{turned, still_room}
use Rattle.dependency_index.proofs.keeping.enlist_one.Goals as goal

pub add-requires : goal.add-requires
add-requires c = (rw c.in-Service.is at c.requires) c.in-Service.name (same_laws.refl c.in-Service.name)

pub returns-in-Service-clause-at : goal.returns-in-Service-clause-at
returns-in-Service-clause-at c = rw c.in-Service.is (turned c.args.lists.now c.add.new.self c.in-Service.name
    (λ numbers. with_number numbers c.args.number) c.add.ensures)

pub returns-in-Service-clause-room : goal.returns-in-Service-clause-room
returns-in-Service-clause-room c = still_room c.args.lists.now c.add.new.self c.in-Service.name c.args.number c.add.ensures
