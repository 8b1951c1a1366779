use Rattle.std.proofs.Common.{◌+◌, ◌-◌, ◌*◌, ◌≤◌}
use Rattle.scm_generate.specs.Listed.{all_runs}
use Rattle.scm_generate.specs.Progress.{IsOpenTo, Makes, Progress}
use Rattle.scm_generate.proofs.starting.start_all.Given as goal

-- what starts the others starts all; a start has 32 processes at most
abbrev pub invariant-loop-before : goal.invariant-loop-before
invariant-loop-before l = record {
  few : l.process ≤ 1 + 32 * l.before;
  still : IsOpenTo l.run (all_runs (l.services - l.before) l.process (l.before + 1));
  whole : (now : Progress) → Makes l.run (all_runs (l.services - l.before) l.process (l.before + 1)) now
      → Makes l.fn.run (all_runs l.services 1 1) now;
}
