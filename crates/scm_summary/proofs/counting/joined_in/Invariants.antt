use Rattle.std.proofs.Common.{◌≡◌, ◌+◌, ◌≤◌, length}
use Rattle.scm_summary.specs.Calls.{joined_in}
use Rattle.scm_summary.proofs.counting.joined_in.Given as goal

abbrev pub invariant-loop-front : goal.invariant-loop-front
invariant-loop-front l = record {
  joined : l.count + joined_in l.entries ≡ joined_in l.trail.entries;
  few : l.count + length l.entries ≤ length l.trail.entries;
}

abbrev pub decreases-loop-front : goal.decreases-loop-front
decreases-loop-front l = length l.entries
