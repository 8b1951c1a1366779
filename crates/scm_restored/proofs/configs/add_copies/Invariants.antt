use Rattle.std.proofs.Common.{◌≡◌, take}
use Rattle.scm_restored.proofs.configs.add_copies.Given as goal

-- those so far were copied
abbrev pub invariant-loop-config : goal.invariant-loop-config
invariant-loop-config l = l.copies ≡ take l.config-index l.configs
