use Rattle.std.proofs.Common.{◌≡◌, ◌≤◌, [], ℕ, List, length}
use Rattle.std.specs.List.{FoldsTo}
use Rattle.demo_service.specs.Doing.{Obeys, point_at, shared_at}
use Rattle.demo_service.proofs.sharing.share.Given as goal

-- the lines so far were obeyed
abbrev pub invariant-loop : goal.invariant-loop
invariant-loop g l = record {
  fronts : List (List ℕ);
  count : length fronts ≡ l.counter;
  obeys : FoldsTo Obeys (shared_at [] (point_at (g.I.Source.left l.fn.input) (g.O.Sink.held l.fn.output))) fronts
      (shared_at l.running.items (point_at (g.I.Source.left l.input) (g.O.Sink.held l.output)));
  input : g.I.Source.faults l.fn.input ≤ g.I.Source.faults l.input;
  output : g.O.Sink.faults l.fn.output ≤ g.O.Sink.faults l.output;
}
