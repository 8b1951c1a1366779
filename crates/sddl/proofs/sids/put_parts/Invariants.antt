use Rattle.std.proofs.Common.{◌≡◌, ◌++◌, take}
use Rattle.std.specs.List.{flat_map}
use Rattle.sddl.specs.Writing.{part_text}
use Rattle.sddl.proofs.sids.put_parts.Given as goal

-- the parts so far were appended
abbrev pub invariant-loop-part : goal.invariant-loop-part
invariant-loop-part l = l.out ≡ l.fn.out ++ flat_map part_text (take l.part-index l.parts)
