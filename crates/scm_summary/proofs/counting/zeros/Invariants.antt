use Rattle.scm_summary.specs.Counting.{IsZeros}
use Rattle.scm_summary.proofs.counting.zeros.Given as goal

abbrev pub invariant-loop : goal.invariant-loop
invariant-loop l = IsZeros l.counter l.counts.items
