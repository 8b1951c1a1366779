use Rattle.std.proofs.Common.{◌≡◌, ◌-◌, ◌≤◌, length}
use Rattle.sddl.specs.Reading.{onto, parts_from}
use Rattle.sddl.proofs.sids.append_parts.Given as goal

-- the parts so far were appended, and the others begin here
abbrev pub invariant-loop : goal.invariant-loop
invariant-loop l = record {
  read : onto l.parts (parts_from (15 - l.counter) l.text l.at) ≡ onto l.fn.parts (parts_from 15 l.text l.place);
  within : l.at ≤ length l.text;
}
