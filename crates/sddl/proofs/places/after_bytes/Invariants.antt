use Rattle.std.proofs.Common.{◌≡◌, ◌≤◌, drop, length}
use Rattle.sddl.specs.Reading.{after_bytes}
use Rattle.sddl.proofs.places.after_bytes.Given as goal

-- the bytes that are left are to stand here
abbrev pub invariant-loop-byte : goal.invariant-loop-byte
invariant-loop-byte l = record {
  read : after_bytes (drop l.byte-index l.bytes) l.text l.at ≡ after_bytes l.bytes l.text l.place;
  within : l.at ≤ length l.text;
}
