use Rattle.std.proofs.Common.{◌≡◌, drop}
use Rattle.service_record.specs.Words.{first_word}
use Rattle.service_record.proofs.lines.has_word.Given as goal

-- the units so far are spaces
abbrev pub invariant-loop-i : goal.invariant-loop-i
invariant-loop-i l = first_word l.units ≡ first_word (drop l.i l.units)
