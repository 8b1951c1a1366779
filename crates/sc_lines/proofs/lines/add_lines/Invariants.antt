use Rattle.std.proofs.Common.{◌≡◌, ◌++◌, drop}
use Rattle.sc_lines.specs.Lines.{lines, seen_lines}
use Rattle.sc_lines.proofs.lines.add_lines.Given as goal

-- the text so far and the lines that are left
abbrev pub invariant-loop-line : goal.invariant-loop-line
invariant-loop-line l = l.text ++ lines (seen_lines (drop l.line-index l.list)) ≡ l.fn.text ++ lines (seen_lines l.list)
