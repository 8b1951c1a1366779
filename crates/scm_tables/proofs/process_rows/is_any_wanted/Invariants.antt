use Rattle.std.proofs.Common.{◌≡◌, drop}
use Rattle.scm_rules.specs.Steps.{wants_launch}
use Rattle.scm_tables.specs.Listed.{wanted_in}
use Rattle.scm_tables.proofs.process_rows.is_any_wanted.Given as goal

-- the rows that are left decide
abbrev pub invariant-loop-row : goal.invariant-loop-row
invariant-loop-row l = wants_launch (wanted_in l.rows) ≡ wants_launch (wanted_in (drop l.row-index l.rows))
