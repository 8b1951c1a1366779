use Rattle.std.proofs.Common.{◌≡◌, false, length, drop}
use Rattle.service_record.specs.Words.{word_from}
use Rattle.service_record.proofs.lines.is_word.Given as goal

-- the units so far are quotes
abbrev pub invariant-loop-unit : goal.invariant-loop-unit
invariant-loop-unit l = length (word_from false l.units) ≡ length (word_from l.quoted (drop l.unit-index l.units))
