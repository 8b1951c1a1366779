use Rattle.std.proofs.Common.{◌≡◌, ◌++◌, drop}
use Rattle.test_values.specs.Built.{units_of}
use Rattle.test_values.proofs.append_ascii.Given as goal

-- with those that are left they are all that are to be appended
abbrev pub invariant-loop-byte : goal.invariant-loop-byte
invariant-loop-byte l = l.text ++ units_of (drop l.byte-index l.byte-items) ≡ l.initial.text ++ units_of l.byte-items
