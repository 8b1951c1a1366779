use Rattle.std.proofs.Common.{ℕ, ◌≡◌, List, true, take, if◌then◌else◌}
use Rattle.number_lists.specs.Rising.{with_number}
use Rattle.number_lists.specs.UnderName.{HasRoom, at}
use Rattle.dependency_index.specs.Kept.{name_it}
use Rattle.dependency_index.proofs.keeping.enlist.Given as goal

abbrev pub invariant-loop-need : goal.invariant-loop-need
invariant-loop-need l = record {
  at : (name : List ℕ) → at l.lists name ≡ (if name_it name (take l.need-index l.needs) then with_number (at l.fn.lists name) l.number
      else at l.fn.lists name);
  room : (name : List ℕ) → name_it name l.needs ≡ true → HasRoom l.lists name l.number;
}
