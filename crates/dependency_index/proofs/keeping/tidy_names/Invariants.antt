use Rattle.std.proofs.Common.{ℕ, ◌≡◌, ◌≤◌, true, List}
use Rattle.number_lists.specs.UnderName.{at, room}
use Rattle.dependency_index.specs.Kept.{name_it}
use Rattle.dependency_index.proofs.keeping.tidy_names.Given as goal

abbrev pub invariant-loop-need : goal.invariant-loop-need
invariant-loop-need l = record {
  at : (name : List ℕ) → at l.lists name ≡ at l.fn.lists name;
  room : (name : List ℕ) → name_it name l.kept ≡ true → room l.fn.lists name ≤ room l.lists name;
}
