use Rattle.std.proofs.Common.{◌≡◌, ◌+◌, ◌-◌, ◌≤◌, ◌^◌, drop, min}
use Rattle.scm_rules.specs.Room.{owed_by_due}
use Rattle.start_plan.specs.Owed.{total}
use Rattle.scm_tables.proofs.tables.Tables.owed_by_dues.Given as goal

-- what was counted, and the rows that are left
abbrev pub invariant-loop-row : goal.invariant-loop-row
invariant-loop-row l = record {
  counted : min (l.owed + total (owed_by_due l.self.flat) (drop l.row-index l.row-items)) (2 ^ 64 - 1) ≡ min
      (total (owed_by_due l.self.flat) l.row-items) (2 ^ 64 - 1);
  most : l.owed ≤ 2 ^ 64 - 1;
}
