use Rattle.std.proofs.Common.{◌≡◌, ◌==◌, ◌||◌, drop}
use Rattle.std.specs.List.{list_any}
use Rattle.service_record.proofs.checking.has_slash.Given as goal

-- the units that are left decide
abbrev pub invariant-loop-unit : goal.invariant-loop-unit
invariant-loop-unit l = list_any (λ u. u == 47 || u == 92) l.units ≡ list_any (λ u. u == 47 || u == 92) (drop l.unit-index l.units)
