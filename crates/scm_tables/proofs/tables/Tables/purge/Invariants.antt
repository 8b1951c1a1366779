use Rattle.std.proofs.Common.{◌≡◌, length}
use Rattle.scm_model.specs.Purge.{purged}
use Rattle.scm_tables.proofs.tables.Tables.purge.Given as goal

-- whoever leaves still leaves
abbrev pub invariant-loop : goal.invariant-loop
invariant-loop l = record {
  rest : purged l.self.flat ≡ purged l.fn.self.flat;
  limits : l.self.limits ≡ l.fn.self.limits;
}

abbrev pub decreases-loop : goal.decreases-loop
decreases-loop l = length l.self.flat.services
