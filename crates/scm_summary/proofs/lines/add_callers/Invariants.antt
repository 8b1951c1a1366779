use Rattle.std.proofs.Common.{◌≡◌, ◌+◌, ◌++◌, drop}
use Rattle.scm_summary.specs.Lines.{callers_from}
use Rattle.scm_summary.proofs.lines.add_callers.Given as goal

-- what was added and what is left are all lines
abbrev pub invariant-loop-place : goal.invariant-loop-place
invariant-loop-place l = l.text ++ callers_from (l.place + 1) (drop l.place l.calls) ≡ l.fn.text ++ callers_from 1 l.calls
