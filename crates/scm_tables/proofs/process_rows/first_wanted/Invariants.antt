use Rattle.std.proofs.Common.{◌≡◌, drop}
use Rattle.scm_rules.specs.Launches.{first_wanted}
use Rattle.scm_tables.specs.Listed.{wanted_in}
use Rattle.scm_tables.proofs.process_rows.first_wanted.Given as goal

-- the rows that are left decide
abbrev pub invariant-loop-row : goal.invariant-loop-row
invariant-loop-row l = first_wanted (wanted_in l.rows) ≡ first_wanted (wanted_in (drop l.row-index l.rows))
