use Rattle.std.proofs.Common.{◌≡◌, drop}
use Rattle.std.specs.List.{list_any}
use Rattle.scm_rules.specs.Start.{is_missing}
use Rattle.scm_arms_start.proofs.starting.is_one_missing.Given as goal

-- the needs that are left decide
abbrev pub invariant-loop-need : goal.invariant-loop-need
invariant-loop-need l = list_any (is_missing l.tables.flat) l.needs ≡ list_any (is_missing l.tables.flat) (drop l.need-index l.needs)
