use Rattle.std.proofs.Common.{◌≡◌, ◌++◌, take}
use Rattle.std.specs.List.{flat_map}
use Rattle.sec_desc.specs.Numbers.{bytes_32}
use Rattle.sec_desc.proofs.writing.put_numbers.Given as goal

-- the numbers so far were appended
abbrev pub invariant-loop-number : goal.invariant-loop-number
invariant-loop-number l = l.out ≡ l.fn.out ++ flat_map bytes_32 (take l.number-index l.numbers)
