use Rattle.std.proofs.Common.{◌≡◌, ◌-◌, ◌+◌, length}
use Rattle.sec_desc.specs.Reading.{aces_in, onto_front}
use Rattle.sec_desc.proofs.reading.append_aces.Given as goal

-- the entries so far were appended, and the others begin here
abbrev pub invariant-loop : goal.invariant-loop
invariant-loop l = record {
  read : onto_front l.to (aces_in (l.count - l.counter) l.at l.rest) ≡ onto_front l.fn.to (aces_in l.count l.place l.bytes);
  place : l.at + length l.rest ≡ l.place + length l.bytes;
}
