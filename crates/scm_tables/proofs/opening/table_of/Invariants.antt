use Rattle.std.proofs.Common.{◌≡◌, ◌++◌}
use Rattle.scm_tables.proofs.opening.table_of.Given as goal

-- the services that are in the table, and those that are left
abbrev pub invariant-loop-service : goal.invariant-loop-service
invariant-loop-service l = l.table.services ++ l.service-iterator.rest.items ≡ l.fn.services.items
