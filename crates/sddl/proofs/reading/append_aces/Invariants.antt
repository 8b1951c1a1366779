use Rattle.std.proofs.Common.{◌≡◌, ◌-◌, ◌^◌, ◌<◌, ◌≤◌, length}
use Rattle.sddl.specs.Reading.{aces_from, list_at, onto}
use Rattle.sddl.proofs.reading.append_aces.Given as goal

-- the entries so far were appended, and the others begin here
abbrev pub invariant-loop : goal.invariant-loop
invariant-loop l = record {
  read : onto l.aces (aces_from (4096 - l.counter) l.size l.text l.at) ≡ onto l.fn.aces (list_at l.text l.place);
  within : l.at ≤ length l.text;
  small : l.size < 2 ^ 16;
}
