use Rattle.std.proofs.Common.{ℕ, ◌≡◌, ◌≤◌, List, take}
use Rattle.number_lists.specs.UnderName.{at, room}
use Rattle.dependency_index.specs.Kept.{IsReady}
use Rattle.dependency_index.proofs.keeping.reserve_names.Given as goal

abbrev pub invariant-loop-need : goal.invariant-loop-need
invariant-loop-need l = record {
  at : (name : List ℕ) → at l.lists name ≡ at l.fn.lists name;
  room : (name : List ℕ) → room l.fn.lists name ≤ room l.lists name;
  ready : IsReady l.lists (take l.need-index l.needs);
}
