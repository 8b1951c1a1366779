use Rattle.std.proofs.Common.{◌≡◌, take}
use Rattle.scm_rules.specs.Needs.{need_rows}
use Rattle.scm_tables.proofs.needing.index_of.Given as goal

-- the services so far have their rows
abbrev pub invariant-loop-row : goal.invariant-loop-row
invariant-loop-row l = l.index.rows ≡ need_rows (take l.row-index l.services)
