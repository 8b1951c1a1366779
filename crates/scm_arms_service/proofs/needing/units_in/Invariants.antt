use Rattle.std.proofs.Common.{◌≡◌, ◌++◌, length}
use Rattle.std.specs.Prelude.{option_map}
use Rattle.scm_rules.specs.Needs.{units_in_bytes}
use Rattle.scm_arms_service.proofs.needing.units_in.Given as goal

-- the units so far and those of what is left are the units
abbrev pub invariant-loop-rest : goal.invariant-loop-rest
invariant-loop-rest l = option_map (λ more. l.units ++ more) (units_in_bytes l.rest) ≡ units_in_bytes l.bytes

abbrev pub decreases-loop-rest : goal.decreases-loop-rest
decreases-loop-rest l = length l.rest
