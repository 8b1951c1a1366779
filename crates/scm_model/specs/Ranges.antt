-- The requests whose sizes and counts are in their ranges.
use Rattle.std.specs.Prelude.{ℕ, Bool, false, true, not, ◌||◌, ◌==◌, nat_le, List, length, Option, None, Some}
use Rattle.scm_model.specs.declared.codes.TheConstants.{MAX_CONFIG_SIZE, MAX_ENUM_SIZE, MAX_LOCK_STATUS_SIZE}
use Rattle.scm_model.specs.declared.codes.TheConstants.{MAX_SECURITY_SIZE, SC_MAX_ACTIONS, SC_MAX_ARGUMENTS, SC_MAX_TRIGGERS}
use Rattle.scm_model.specs.declared.codes.TheConstants.{SERVICE_CONFIG_DELAYED_AUTO_START_INFO, SERVICE_CONFIG_DESCRIPTION}
use Rattle.scm_model.specs.declared.codes.TheConstants.{SERVICE_CONFIG_FAILURE_ACTIONS, SERVICE_CONFIG_FAILURE_ACTIONS_FLAG}
use Rattle.scm_model.specs.declared.codes.TheConstants.{SERVICE_CONFIG_TRIGGER_INFO}
use Rattle.scm_model.specs.declared.flat.Action.{Action}
use Rattle.scm_model.specs.declared.calls.Info.{Info}
use Rattle.scm_model.specs.declared.calls.Info.TheVariants as info
use Rattle.scm_model.specs.declared.calls.Request.{Request}
use Rattle.scm_model.specs.declared.calls.Request.TheVariants as request

-- how many words a start has, where it has any
abbrev pub are_few : Option (List (List ℕ)) → Bool
are_few None = true
are_few (Some words) = nat_le (length words) SC_MAX_ARGUMENTS

-- how many actions there are, where there are any
abbrev pub are_few_actions : Option (List Action) → Bool
are_few_actions None = true
are_few_actions (Some actions) = nat_le (length actions) SC_MAX_ACTIONS

-- the levels that are served
abbrev pub is_level : ℕ → Bool
is_level level =
    level == SERVICE_CONFIG_DESCRIPTION || level == SERVICE_CONFIG_FAILURE_ACTIONS || level == SERVICE_CONFIG_DELAYED_AUTO_START_INFO
    || level == SERVICE_CONFIG_FAILURE_ACTIONS_FLAG || level == SERVICE_CONFIG_TRIGGER_INFO

abbrev pub info_in_range : Info → Bool
info_in_range (info.Description text) = true
info_in_range (info.Failure reset command actions) = are_few_actions actions
info_in_range (info.Delayed on) = true
info_in_range (info.OnExit on) = true
info_in_range (info.Triggers list) = nat_le (length list) SC_MAX_TRIGGERS
info_in_range (info.Other level) = not (is_level level)
info_in_range (info.Nothing level) = is_level level

abbrev pub in_range : Request → Bool
in_range (request.EnumDependents handle states size) = nat_le size MAX_ENUM_SIZE
in_range (request.EnumServices handle kinds states size resume) = nat_le size MAX_ENUM_SIZE
in_range (request.QueryStatusEx handle level size) = nat_le size MAX_CONFIG_SIZE
in_range (request.Change2 handle asked) = info_in_range asked
in_range (request.QueryConfig2 handle level size) = nat_le size MAX_CONFIG_SIZE
in_range (request.QueryConfig handle size) = nat_le size MAX_CONFIG_SIZE
in_range (request.QueryLock handle size) = nat_le size MAX_LOCK_STATUS_SIZE
in_range (request.Start handle words) = are_few words
in_range (request.QuerySecurity handle parts size) = nat_le size MAX_SECURITY_SIZE
in_range (request.SetSecurity handle parts bytes) = nat_le (length bytes) MAX_SECURITY_SIZE
in_range asked = true
