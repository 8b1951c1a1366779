use Rattle.std.proofs.Common.{◌≡◌, drop, find}
use Rattle.dependency_index.specs.Dependents.{all_named, is_behind, lesser}
use Rattle.dependency_index.proofs.dependents.next_named.Given as goal

-- with what is left it comes to what all come to
abbrev pub invariant-loop-need : goal.invariant-loop-need
invariant-loop-need l =
    lesser l.next (find (is_behind l.last) (all_named l.index.rows (drop l.need-index l.needs))) ≡ find (is_behind l.last)
    (all_named l.index.rows l.needs)
