use Rattle.std.proofs.Common.{◌≡◌}
use Rattle.scm_tables.proofs.Exits.{FailsFrom}
use Rattle.scm_tables.proofs.tables.Tables.fail_each.Given as goal

-- those before the place failed
abbrev pub invariant-loop-place : goal.invariant-loop-place
invariant-loop-place l = record {
  fails : FailsFrom l.process l.place l.fn.self.flat l.self.flat;
  limits : l.self.limits ≡ l.fn.self.limits;
}
