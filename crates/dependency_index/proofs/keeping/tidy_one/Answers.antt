use Rattle.std.proofs.Common.{ℕ, List, sym}
use Rattle.dependency_index.proofs.Staying.{room_stays}
use Rattle.dependency_index.proofs.keeping.tidy_one.Goals as goal

pub returns-then-not-name_it-clause-room : goal.returns-then-not-name_it-clause-room
returns-then-not-name_it-clause-room c = λ (name : List ℕ) some. room_stays c.args.lists.now c.tidy.new.self c.in-Service.name
    c.args.kept.now c.tidy.ensures (sym c.if-not-name_it.ensures) name some
