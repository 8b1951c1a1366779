use Rattle.std.proofs.Common.{length}
use Rattle.scm_summary.specs.Counting.{CountsTo}
use Rattle.scm_summary.proofs.counting.count_calls.Given as goal

abbrev pub invariant-loop-front : goal.invariant-loop-front
invariant-loop-front l = CountsTo l.trail.entries l.entries (length l.fn.counts) l.counts

abbrev pub decreases-loop-front : goal.decreases-loop-front
decreases-loop-front l = length l.entries
