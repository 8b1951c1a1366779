use Rattle.std.proofs.Common.{◌+◌, ◌-◌, ◌≤◌, length, take}
use Rattle.trail_audit.specs.Along.{CanGoOn, GoesOn, point}
use Rattle.trail_audit.proofs.feeding.feed.Given as goal

-- the lines that end in the bytes so far were taken
abbrev pub invariant-loop-taken : goal.invariant-loop-taken
invariant-loop-taken l = record {
  within : l.taken ≤ length l.piece;
  on : GoesOn (take l.taken l.piece) (point l.fn.auditor l.fn.reading) (point l.auditor l.reading);
  can : CanGoOn l.auditor;
  number : l.reading.number ≤ l.fn.reading.number + l.taken;
}

abbrev pub decreases-loop-taken : goal.decreases-loop-taken
decreases-loop-taken l = length l.piece - l.taken
