use Rattle.std.proofs.Common.{◌≡◌, ◌==◌, drop, find}
use Rattle.scm_tables.proofs.caller_rows.caller_in.Given as goal

-- the row is among those that are left
abbrev pub invariant-loop-row : goal.invariant-loop-row
invariant-loop-row l = find (λ row. row.number == l.number) l.rows ≡ find (λ row. row.number == l.number) (drop l.row-index l.rows)
