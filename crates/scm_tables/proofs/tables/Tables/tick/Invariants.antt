use Rattle.std.proofs.Common.{◌≡◌}
use Rattle.scm_rules.specs.Ticks.{all_fired, ticked}
use Rattle.scm_tables.specs.Firing.{CanFire}
use Rattle.scm_tables.proofs.tables.Tables.tick.Given as goal

-- the rows that are left come to what all come to
abbrev pub invariant-loop-left : goal.invariant-loop-left
invariant-loop-left l = record {
  whole : all_fired l.self.limits l.left l.self.flat ≡ ticked l.fn.self.limits l.fn.self.flat;
  limits : l.self.limits ≡ l.fn.self.limits;
  can : CanFire l.self;
}

abbrev pub decreases-loop-left : goal.decreases-loop-left
decreases-loop-left l = l.left
