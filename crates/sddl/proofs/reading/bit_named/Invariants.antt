use Rattle.std.proofs.Common.{◌≡◌, drop}
use Rattle.sddl.specs.Tables.{bit_named}
use Rattle.sddl.proofs.reading.bit_named.Given as goal

-- what is found is in the rows that are left
abbrev pub invariant-loop-letters : goal.invariant-loop-letters
invariant-loop-letters l = bit_named (drop l.letters-index l.table) l.pair ≡ bit_named l.table l.pair
