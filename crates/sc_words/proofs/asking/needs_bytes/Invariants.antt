use Rattle.std.proofs.Common.{◌≡◌, ◌++◌, drop}
use Rattle.std.specs.List.{flat_map}
use Rattle.sc_words.specs.Asks.{utf16_bytes, zero_ended}
use Rattle.sc_words.proofs.asking.needs_bytes.Given as goal

-- the bytes so far and those of what is left
abbrev pub invariant-loop-name : goal.invariant-loop-name
invariant-loop-name l = l.bytes ++ utf16_bytes (flat_map zero_ended (drop l.name-index l.names)) ≡ utf16_bytes (flat_map zero_ended l.names)
