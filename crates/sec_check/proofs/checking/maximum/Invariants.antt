use Rattle.std.proofs.Common.{◌-◌, ◌≤◌, drop, length}
use Rattle.std.specs.Prelude.{filter}
use Rattle.sec_desc.specs.Reading.{aces_in}
use Rattle.sec_check.specs.Allowed.{aces_of, counts, maximum}
use Rattle.sec_check.proofs.Forward.{Left}
use Rattle.sec_check.proofs.checking.maximum.Given as goal

-- the entries that are left begin here, and come with what is known to the whole
abbrev pub invariant-loop : goal.invariant-loop
invariant-loop l = record {
  within : l.at ≤ length l.entries;
  left : Left l.principal (l.count - l.counter) (drop l.at l.entries) l.so_far
      (maximum (filter (counts l.principal) (aces_of (aces_in l.count 0 l.entries))));
}
