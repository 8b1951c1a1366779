use Rattle.std.proofs.Common.{◌≡◌, drop}
use Rattle.std.specs.Prelude.{nat_lt}
use Rattle.std.specs.List.{list_any}
use Rattle.scm_model.specs.declared.flat.Action.{Action}
use Rattle.service_record.proofs.checking.has_bad_action.Given as goal

-- the actions that are left decide
abbrev pub invariant-loop-action : goal.invariant-loop-action
invariant-loop-action l =
    list_any (λ (action : Action). nat_lt 3 action.what) l.actions
    ≡ list_any (λ (action : Action). nat_lt 3 action.what) (drop l.action-index l.actions)
