use Rattle.std.proofs.Common.{◌≤◌}
use Rattle.scm_generate.specs.Listed.{downs}
use Rattle.scm_generate.specs.Progress.{IsOpenTo, Makes, Progress}
use Rattle.scm_generate.proofs.starting.downs.Given as goal

-- what ends the others ends all
abbrev pub invariant-loop-left : goal.invariant-loop-left
invariant-loop-left l = record {
  most : l.left ≤ l.count;
  still : IsOpenTo l.run (downs l.first l.left);
  whole : (now : Progress) → Makes l.run (downs l.first l.left) now → Makes l.fn.run (downs l.first l.count) now;
}

abbrev pub decreases-loop-left : goal.decreases-loop-left
decreases-loop-left l = l.left
