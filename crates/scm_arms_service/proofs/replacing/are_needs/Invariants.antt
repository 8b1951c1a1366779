use Rattle.std.proofs.Common.{◌≡◌, drop}
use Rattle.std.specs.Cmp.Lexicographic.{pointwise}
use Rattle.scm_rules.specs.Change.{is_need}
use Rattle.scm_arms_service.proofs.replacing.are_needs.Given as goal

-- what is left decides
abbrev pub invariant-loop-i : goal.invariant-loop-i
invariant-loop-i l = pointwise is_need l.old l.new ≡ pointwise is_need (drop l.i l.old) (drop l.i l.new)
