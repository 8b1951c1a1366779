use Rattle.std.proofs.Common.{◌≡◌, ◌++◌, drop}
use Rattle.sc_words.specs.Asks.{utf16_bytes}
use Rattle.sc_words.proofs.asking.append_units.Given as goal

-- the bytes so far and those of what is left
abbrev pub invariant-loop-unit : goal.invariant-loop-unit
invariant-loop-unit l = l.bytes ++ utf16_bytes (drop l.unit-index l.units) ≡ l.fn.bytes ++ utf16_bytes l.units
