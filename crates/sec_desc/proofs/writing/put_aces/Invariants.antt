use Rattle.std.proofs.Common.{◌≡◌, ◌++◌, take}
use Rattle.std.specs.List.{flat_map}
use Rattle.sec_desc.specs.Writing.{ace_bytes}
use Rattle.sec_desc.proofs.writing.put_aces.Given as goal

-- the entries so far were appended
abbrev pub invariant-loop-ace : goal.invariant-loop-ace
invariant-loop-ace l = l.out ≡ l.fn.out ++ flat_map ace_bytes (take l.ace-index l.aces)
