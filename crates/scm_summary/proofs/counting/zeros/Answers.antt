use Rattle.std.proofs.Common.{rules}
use Rattle.scm_summary.proofs.Counts.{no_zeros, zeros_more}
use Rattle.scm_summary.proofs.counting.zeros.Goals as goal

pub loop-init : goal.loop-init
loop-init c = no_zeros _ (search rules)

pub loop-preserved : goal.loop-preserved
loop-preserved c = zeros_more c.loop.counter c.loop.counts.items _ (search rules) c.loop.invariant
