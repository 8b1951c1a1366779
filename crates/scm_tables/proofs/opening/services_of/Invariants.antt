use Rattle.std.proofs.Common.{◌≡◌, ◌+◌, ◌++◌, length}
use Rattle.scm_rules.specs.Opening.{services_from}
use Rattle.scm_tables.proofs.opening.services_of.Given as goal

-- the services so far, and those of the configurations that are left, with the numbers behind
abbrev pub invariant-loop-config : goal.invariant-loop-config
invariant-loop-config l =
    l.rows.items ++ services_from (length l.rows.items + 1) l.config-iterator.rest.items ≡ services_from 1 l.fn.configs
