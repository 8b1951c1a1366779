use Rattle.std.proofs.Common.{ℕ, List}
use Rattle.dependency_index.proofs.Shelves.{same_room, on_ok}
use Rattle.dependency_index.proofs.keeping.reserve_name.Goals as goal

pub returns-in-Service-clause-ok : goal.returns-in-Service-clause-ok
returns-in-Service-clause-ok c = on_ok c.reserve.result _ _ c.reserve.ensures.ok
    (λ enough. rw c.in-Service.is (λ (name : List ℕ) same. rw (same_room c.reserve.new.self name c.in-Service.name same) enough))
