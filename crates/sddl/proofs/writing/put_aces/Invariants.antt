use Rattle.std.proofs.Common.{◌≡◌, ◌++◌, take}
use Rattle.std.specs.List.{flat_map}
use Rattle.sddl.specs.Writing.{ace_text}
use Rattle.sddl.proofs.writing.put_aces.Given as goal

-- the entries so far were appended
abbrev pub invariant-loop-ace : goal.invariant-loop-ace
invariant-loop-ace l = l.out ≡ l.fn.out ++ flat_map ace_text (take l.ace-index l.aces)
