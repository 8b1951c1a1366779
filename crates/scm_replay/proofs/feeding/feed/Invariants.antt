use Rattle.std.proofs.Common.{◌+◌, ◌-◌, ◌≡◌, ◌≤◌, length, take}
use Rattle.scm_replay.specs.Along.{GoesOn, Keeps, point}
use Rattle.scm_replay.proofs.feeding.feed.Given as goal

-- the lines that end in the bytes so far are answered
abbrev pub invariant-loop-taken : goal.invariant-loop-taken
invariant-loop-taken g l = record {
  within : l.taken ≤ length l.piece;
  on : GoesOn l.fn.manager.limits (take l.taken l.piece)
      (point l.fn.manager l.fn.reading (g.O.Sink.held l.fn.output))
      (point l.manager l.reading (g.O.Sink.held l.output));
  keeps : Keeps l.fn.manager l.manager l.taken;
  number : l.reading.number ≤ l.fn.reading.number + l.taken;
  faults : g.O.Sink.faults l.output ≡ g.O.Sink.faults l.fn.output;
}

abbrev pub decreases-loop-taken : goal.decreases-loop-taken
decreases-loop-taken g l = length l.piece - l.taken
