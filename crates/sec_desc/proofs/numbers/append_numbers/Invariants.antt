use Rattle.std.proofs.Common.{◌≡◌, ◌++◌}
use Rattle.sec_desc.specs.Numbers.{numbers_32}
use Rattle.sec_desc.proofs.numbers.append_numbers.Given as goal

-- the numbers so far were appended
abbrev pub invariant-loop-i : goal.invariant-loop-i
invariant-loop-i l = l.to ≡ l.fn.to ++ numbers_32 l.i l.bytes
