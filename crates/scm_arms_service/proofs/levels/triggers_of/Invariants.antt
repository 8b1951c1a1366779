use Rattle.std.proofs.Common.{◌≡◌, map, take}
use Rattle.scm_rules.specs.Change2.{trigger_of}
use Rattle.scm_arms_service.proofs.levels.triggers_of.Given as goal

-- the triggers so far are those that are asked for
abbrev pub invariant-loop-asked : goal.invariant-loop-asked
invariant-loop-asked l = l.triggers ≡ map trigger_of (take l.asked-index l.list)
