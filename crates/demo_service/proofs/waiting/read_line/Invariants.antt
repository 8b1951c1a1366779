use Rattle.std.proofs.Common.{◌≡◌, ◌≤◌, ℕ, List, length}
use Rattle.std.specs.Io.KnownBytes.{Consumes}
use Rattle.child_link.specs.Cutting.{kept}
use Rattle.demo_service.specs.Doing.{IsWholeLine}
use Rattle.demo_service.proofs.waiting.read_line.Given as goal

-- no feed came yet, and the bytes so far are kept
abbrev pub invariant-loop : goal.invariant-loop
invariant-loop g l = record {
  front : List ℕ;
  one : IsWholeLine front;
  count : length front ≡ l.counter;
  read : Consumes (g.I.Source.left l.fn.input) (g.I.Source.left l.input) front;
  keeps : l.line ≡ kept front;
  input : g.I.Source.faults l.fn.input ≤ g.I.Source.faults l.input;
}
