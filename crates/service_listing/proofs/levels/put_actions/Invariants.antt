use Rattle.std.proofs.Common.{◌≡◌, ◌++◌, drop}
use Rattle.std.specs.List.{flat_map}
use Rattle.service_listing.specs.Levels.{action_bytes}
use Rattle.service_listing.proofs.levels.put_actions.Given as goal

-- with the actions that are left they are all actions
abbrev pub invariant-loop-action : goal.invariant-loop-action
invariant-loop-action l = l.out ++ flat_map action_bytes (drop l.action-index l.actions) ≡ l.initial.out ++ flat_map action_bytes l.actions
