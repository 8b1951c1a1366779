use Rattle.std.proofs.Common.{◌≡◌, ◌-◌, ◌+◌, ◌≤◌, drop, length}
use Rattle.std.specs.List.{prefix_len}
use Rattle.sddl.specs.Reading.{is_digit}
use Rattle.sddl.proofs.numbers.count_digits.Given as goal

-- as many digits are there, and those that begin here
abbrev pub invariant-loop-count : goal.invariant-loop-count
invariant-loop-count l = record {
  digits : l.count + prefix_len (is_digit l.radix) (drop l.count l.bytes) ≡ prefix_len (is_digit l.radix) l.bytes;
  within : l.count ≤ length l.bytes;
}

abbrev pub decreases-loop-count : goal.decreases-loop-count
decreases-loop-count l = length l.bytes - l.count
