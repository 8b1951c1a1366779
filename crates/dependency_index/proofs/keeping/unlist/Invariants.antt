use Rattle.std.proofs.Common.{ℕ, ◌≡◌, ◌≤◌, List, take, if◌then◌else◌}
use Rattle.number_lists.specs.Rising.{without_number}
use Rattle.number_lists.specs.UnderName.{at, room}
use Rattle.dependency_index.specs.Kept.{name_it}
use Rattle.dependency_index.proofs.keeping.unlist.Given as goal

abbrev pub invariant-loop-need : goal.invariant-loop-need
invariant-loop-need l = record {
  at : (name : List ℕ) → at l.lists name ≡ (if name_it name (take l.need-index l.needs) then without_number (at l.fn.lists name) l.number
      else at l.fn.lists name);
  room : (name : List ℕ) → room l.fn.lists name ≤ room l.lists name;
}
