use Rattle.std.proofs.Common.{◌≡◌, ◌++◌, take}
use Rattle.trail_export.proofs.beginning.add_copies.Given as goal

-- the configurations so far were copied
abbrev pub invariant-loop-config : goal.invariant-loop-config
invariant-loop-config l = l.copies ≡ l.fn.copies ++ take l.config-index l.configs
