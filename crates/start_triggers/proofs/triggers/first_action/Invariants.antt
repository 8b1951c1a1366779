use Rattle.std.proofs.Common.{◌≡◌, drop}
use Rattle.start_triggers.specs.Triggers.{first_action}
use Rattle.start_triggers.proofs.triggers.first_action.Given as goal

-- the triggers that are left decide
abbrev pub invariant-loop-trigger : goal.invariant-loop-trigger
invariant-loop-trigger l = first_action l.triggers l.subtype ≡ first_action (drop l.trigger-index l.triggers) l.subtype
