use Rattle.std.proofs.Common.{◌≡◌, ◌-◌, ◌≤◌, drop, length}
use Rattle.sddl.specs.Reading.{bits_at, bits_from}
use Rattle.sddl.proofs.reading.bits_at.Given as goal

-- the letters that are left begin here
abbrev pub invariant-loop-bit : goal.invariant-loop-bit
invariant-loop-bit l = record {
  read : bits_from l.table l.bits l.at (drop l.at l.text) ≡ bits_at l.table l.text l.place;
  within : l.at ≤ length l.text;
}

abbrev pub decreases-loop-bit : goal.decreases-loop-bit
decreases-loop-bit l = length l.text - l.at
