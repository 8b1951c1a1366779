use Rattle.std.proofs.Common.{◌≡◌, drop, map}
use Rattle.scm_rules.specs.EnumServices.{last_number}
use Rattle.scm_arms_enum.proofs.replying.last_number.Given as goal

-- those that are left tell it
abbrev pub invariant-loop-row : goal.invariant-loop-row
invariant-loop-row l = last_number l.none (map (λ s. s.now) l.rows) ≡ last_number l.last (map (λ s. s.now) (drop l.row-index l.rows))
