use Rattle.std.proofs.Common.{◌≡◌, ◌<◌, ◌^◌, take}
use Rattle.std.specs.Str.Parse.{AllDigits, digits_value}
use Rattle.decimal_words.proofs.digits_at.Given as goal

-- the digits so far write the number
abbrev pub invariant-loop-digit : goal.invariant-loop-digit
invariant-loop-digit l = AllDigits 10 (take l.digit-index l.text) × (l.number ≡ digits_value 10 (take l.digit-index l.text))
    × (l.number < 2 ^ 64)
