use Rattle.std.proofs.Common.{◌≡◌, ◌++◌, map, take}
use Rattle.child_link.specs.Lines.{printed_unit}
use Rattle.child_link.proofs.lines.add_name.Given as goal

-- the units so far were added
abbrev pub invariant-loop-unit : goal.invariant-loop-unit
invariant-loop-unit l = l.line ≡ l.fn.line ++ map printed_unit (take l.unit-index l.name)
