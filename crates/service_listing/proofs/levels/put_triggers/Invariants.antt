use Rattle.std.proofs.Common.{◌≡◌, ◌++◌, drop}
use Rattle.std.specs.List.{flat_map}
use Rattle.service_listing.specs.Levels.{trigger_bytes}
use Rattle.service_listing.proofs.levels.put_triggers.Given as goal

-- with the triggers that are left they are all triggers
abbrev pub invariant-loop-trigger : goal.invariant-loop-trigger
invariant-loop-trigger l = l.out ++ flat_map trigger_bytes (drop l.trigger-index l.triggers) ≡ l.initial.out
    ++ flat_map trigger_bytes l.triggers
