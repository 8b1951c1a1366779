use Rattle.std.proofs.Common.{◌≡◌, map, take}
use Rattle.scm_rules.specs.Needs.{need_named}
use Rattle.scm_arms_service.proofs.needing.needs_of.Given as goal

-- the names so far are read
abbrev pub invariant-loop-name : goal.invariant-loop-name
invariant-loop-name l = l.needs ≡ map need_named (take l.name-index l.names)
