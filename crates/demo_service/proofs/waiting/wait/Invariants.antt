use Rattle.std.proofs.Common.{◌≡◌, ◌≤◌, true, ℕ, List, length}
use Rattle.std.specs.List.{FoldsTo}
use Rattle.demo_service.specs.Doing.{Hears, point_at}
use Rattle.demo_service.proofs.waiting.wait.Given as goal

-- the lines so far were heard, and none of them stops
abbrev pub invariant-loop : goal.invariant-loop
invariant-loop g l = record {
  fronts : List (List ℕ);
  count : length fronts ≡ l.counter;
  hears : FoldsTo (Hears true) (point_at (g.I.Source.left l.fn.input) (g.O.Sink.held l.fn.output)) fronts
      (point_at (g.I.Source.left l.input) (g.O.Sink.held l.output));
  input : g.I.Source.faults l.fn.input ≤ g.I.Source.faults l.input;
  output : g.O.Sink.faults l.fn.output ≤ g.O.Sink.faults l.output;
}
