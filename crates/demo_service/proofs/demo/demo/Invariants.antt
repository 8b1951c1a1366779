use Rattle.std.proofs.Common.{◌≤◌, take}
use Rattle.std.specs.List.{FoldsTo}
use Rattle.demo_service.specs.Doing.{Does, point_at}
use Rattle.demo_service.proofs.demo.demo.Given as goal

-- the words so far were done
abbrev pub invariant-loop-text : goal.invariant-loop-text
invariant-loop-text g l = record {
  does : FoldsTo Does (point_at (g.I.Source.left l.fn.input) (g.O.Sink.held l.fn.output)) (take l.text-index l.texts)
      (point_at (g.I.Source.left l.input) (g.O.Sink.held l.output));
  input : g.I.Source.faults l.fn.input ≤ g.I.Source.faults l.input;
  output : g.O.Sink.faults l.fn.output ≤ g.O.Sink.faults l.output;
}
