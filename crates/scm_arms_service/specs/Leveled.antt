-- What a level puts in place of what was there, and what it is refused with for the service.
use Rattle.std.specs.Prelude.{ℕ, ◌||◌, List, [], ◌∷◌, Option, None, Some, unwrap_or}
use Rattle.scm_model.specs.declared.calls.Info.{Info}
use Rattle.scm_model.specs.declared.codes.TheConstants.{ERROR_INVALID_LEVEL, ERROR_INVALID_PARAMETER, ERROR_SERVICE_MARKED_FOR_DELETE}
use Rattle.scm_model.specs.declared.flat.Action.{Action}
use Rattle.scm_model.specs.declared.flat.Config.{Config}
use Rattle.scm_model.specs.declared.flat.Service.{Service}
use Rattle.scm_model.specs.Refused.{Refusals}
use Rattle.scm_rules.specs.Change2.{has_bad_trigger, is_other, is_refused}
use Rattle.scm_rules.specs.Delete.{is_marked}
use Rattle.scm_arms_service.specs.declared.levels.Failing.{Failing}

-- the reset period that is asked for with actions; 0 with no actions, and the old one where they are absent
abbrev pub reset_or : ℕ → ℕ → Option (List Action) → ℕ
reset_or old asked None = old
reset_or old asked (Some []) = 0
reset_or old asked (Some (action ∷ actions)) = asked

abbrev pub failing_of : Config → ℕ → Option (List ℕ) → Option (List Action) → Failing
failing_of old reset command actions = record {
  reset = reset_or old.reset reset actions;
  command = unwrap_or command old.command;
  actions = unwrap_or actions old.actions;
}

abbrev pub with_failing : Config → Failing → Config
with_failing old failing = record old { reset = failing.reset; command = failing.command; actions = failing.actions }

abbrev pub level_refusals : Info → Option Service → Refusals
level_refusals asked service =
    (is_marked service, ERROR_SERVICE_MARKED_FOR_DELETE)
    ∷ (is_other asked, ERROR_INVALID_LEVEL)
    ∷ (has_bad_trigger asked || is_refused asked service, ERROR_INVALID_PARAMETER)
    ∷ []
