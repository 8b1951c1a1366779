use Rattle.std.proofs.Common.{◌≡◌, length}
use Rattle.scm_model.specs.Processes.{currents}
use Rattle.scm_rules.specs.Launches.{with_fallen}
use Rattle.scm_tables.proofs.tables.Tables.fall.Given as goal

-- those who are left fall as all would
abbrev pub invariant-loop-number : goal.invariant-loop-number
invariant-loop-number l = record {
  fallen : with_fallen l.self.flat l.process l.code ≡ with_fallen l.fn.self.flat l.process l.code;
  limits : l.self.limits ≡ l.fn.self.limits;
}

abbrev pub decreases-loop-number : goal.decreases-loop-number
decreases-loop-number l = length (currents l.process l.self.flat.services)
