use Rattle.std.proofs.Common.{◌≡◌, ◌++◌, take}
use Rattle.scm_lines.specs.Entries.{spaced_numbers}
use Rattle.scm_lines.proofs.entries.add_codes.Given as goal

-- the numbers so far are added
abbrev pub invariant-loop-number : goal.invariant-loop-number
invariant-loop-number l = l.line.items ≡ l.fn.line.items ++ spaced_numbers (take l.number-index l.numbers)
