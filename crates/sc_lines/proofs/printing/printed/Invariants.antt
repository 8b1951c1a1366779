-- What was made, with the text of the units that are left, is the text of all of them.
use Rattle.std.proofs.Common.{◌≡◌, ◌++◌, ◌-◌, length, drop}
use Rattle.std.specs.Prelude.{string_bytes}
use Rattle.sc_lines.specs.Printed.{printed}
use Rattle.sc_lines.proofs.printing.printed.Given as goal

abbrev pub invariant-loop-at : goal.invariant-loop-at
invariant-loop-at l = string_bytes l.text ++ printed (drop l.at l.units) ≡ printed l.units

abbrev pub decreases-loop-at : goal.decreases-loop-at
decreases-loop-at l = length l.units - l.at
