use Rattle.std.proofs.Common.{◌≡◌, ◌++◌, drop}
use Rattle.std.specs.List.{flat_map}
use Rattle.std.specs.Int.{w32, to_le_bytes}
use Rattle.service_listing.proofs.levels.put_wide.Given as goal

-- with the numbers that are left they are all numbers
abbrev pub invariant-loop-number : goal.invariant-loop-number
invariant-loop-number l = l.out ++ flat_map (to_le_bytes w32) (drop l.number-index l.numbers) ≡ l.initial.out
    ++ flat_map (to_le_bytes w32) l.numbers
