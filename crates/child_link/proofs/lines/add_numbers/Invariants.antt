use Rattle.std.proofs.Common.{◌≡◌, ◌++◌, take}
use Rattle.child_link.specs.Lines.{spaced}
use Rattle.child_link.proofs.lines.add_numbers.Given as goal

-- the numbers so far were added
abbrev pub invariant-loop-number : goal.invariant-loop-number
invariant-loop-number l = l.line ≡ l.fn.line ++ spaced (take l.number-index l.numbers)
