use Rattle.std.proofs.Common.{◌≡◌, ◌++◌, take}
use Rattle.std.specs.Int.{w16, to_le_bytes}
use Rattle.std.specs.List.{flat_map}
use Rattle.opening_lines.proofs.writing.append_units.Given as goal

-- the units so far are appended
abbrev pub invariant-loop-unit : goal.invariant-loop-unit
invariant-loop-unit l = l.bytes ≡ l.fn.bytes ++ flat_map (to_le_bytes w16) (take l.unit-index l.units)
