use Rattle.std.proofs.Common.{◌≡◌, ◌≤◌, ◌++◌, ◌-◌, drop, length}
use Rattle.sc_lines.specs.Reading.{units}
use Rattle.sc_lines.proofs.reading.units.Given as goal

-- the units so far and those of what is left
abbrev pub invariant-loop-place : goal.invariant-loop-place
invariant-loop-place l = record {
  value : l.found.items ++ units (drop l.place l.bytes) ≡ units l.bytes;
  within : l.place ≤ length l.bytes;
}

abbrev pub decreases-loop-place : goal.decreases-loop-place
decreases-loop-place l = length l.bytes - l.place
