use Rattle.std.proofs.Common.{◌≡◌, ◌++◌, ◌-◌, map}
use Rattle.sc_lines.specs.Reading.{rows}
use Rattle.sc_lines.proofs.reading.rows.Given as goal

-- the rows so far and those of what is left
abbrev pub invariant-loop : goal.invariant-loop
invariant-loop l = map (λ row. row.now) l.found.items ++ rows l.size (l.most - l.counter) l.rest ≡ rows l.size l.most l.bytes
