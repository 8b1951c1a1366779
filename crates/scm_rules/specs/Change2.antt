-- RChangeServiceConfig2W: one level of a service's configuration is replaced.
use Rattle.std.specs.Prelude.{ℕ, Bool, true, false, not, ◌||◌, ◌&&◌, ◌==◌, List, [], ◌∷◌, Option, None, Some, is_none, map, option_and_then}
use Rattle.std.specs.Prelude.{option_map, unwrap_or}
use Rattle.std.specs.List.{list_any}
use Rattle.scm_model.specs.declared.flat.Action.{Action}
use Rattle.scm_model.specs.declared.flat.Config.{Config}
use Rattle.scm_model.specs.declared.flat.Flat.{Flat}
use Rattle.scm_model.specs.declared.flat.Service.{Service}
use Rattle.scm_model.specs.declared.flat.Trigger.{Trigger}
use Rattle.scm_model.specs.declared.calls.Info.{Info}
use Rattle.scm_model.specs.declared.calls.Info.TheVariants as info
use Rattle.scm_model.specs.declared.calls.TriggerIn.{TriggerIn}
use Rattle.scm_model.specs.declared.calls.Reply.TheVariants as reply
use Rattle.scm_model.specs.declared.calls.Request.TheVariants as request
use Rattle.scm_model.specs.declared.steps.Change.{Change}
use Rattle.scm_model.specs.declared.steps.Kept.{Kept}
use Rattle.scm_model.specs.Rows.{held_service, opened}
use Rattle.scm_model.specs.Refused.{first_refusal, Refusals, outcome}
use Rattle.scm_model.specs.Outcomes.{CallResult}
use Rattle.scm_model.specs.declared.codes.TheConstants.{ERROR_ACCESS_DENIED, ERROR_INVALID_HANDLE, ERROR_INVALID_LEVEL}
use Rattle.scm_model.specs.declared.codes.TheConstants.{ERROR_INVALID_PARAMETER, ERROR_SERVICE_MARKED_FOR_DELETE, SC_ACTION_RESTART}
use Rattle.scm_model.specs.declared.codes.TheConstants.{SERVICE_CHANGE_CONFIG, SERVICE_START, SERVICE_TRIGGER_ACTION_SERVICE_START}
use Rattle.scm_model.specs.declared.codes.TheConstants.{SERVICE_TRIGGER_ACTION_SERVICE_STOP, SERVICE_TRIGGER_TYPE_CUSTOM}
use Rattle.service_record.specs.Checks.{check_change}
use Rattle.scm_rules.specs.Change.{changed_from, configured_in}
use Rattle.scm_rules.specs.Delete.{is_marked, keeping_refusals}
use Rattle.scm_rules.specs.Rights.{lacks}

-- ## The new configuration

-- the actions that are asked for, with their reset period; no actions delete both, and absent ones leave both
abbrev pub acting : Config → ℕ → Option (List Action) → Config
acting old reset None = old
acting old reset (Some []) = record old { reset = 0; actions = [] }
acting old reset (Some (action ∷ actions)) = record old { reset = reset; actions = action ∷ actions }

abbrev pub zero_subtype : List ℕ
zero_subtype = 0 ∷ 0 ∷ 0 ∷ 0 ∷ 0 ∷ 0 ∷ 0 ∷ 0 ∷ 0 ∷ 0 ∷ 0 ∷ 0 ∷ 0 ∷ 0 ∷ 0 ∷ 0 ∷ []

abbrev pub trigger_of : TriggerIn → Trigger
trigger_of asked = record { action = asked.action; subtype = unwrap_or asked.subtype zero_subtype }

-- a level takes the place of what was there
abbrev pub config_at : Info → Config → Config
config_at (info.Description text) old = record old { description = unwrap_or text old.description }
config_at (info.Failure reset command actions) old = record (acting old reset actions) { command = unwrap_or command old.command }
config_at (info.Delayed on) old = record old { delayed = on }
config_at (info.OnExit on) old = record old { on_exit = on }
config_at (info.Triggers list) old = record old { triggers = map trigger_of list }
config_at (info.Other level) old = old
config_at (info.Nothing level) old = old

abbrev pub level_config : Info → Service → Config
level_config asked row = config_at asked row.config

-- ## Refusals

abbrev pub is_restart : Action → Bool
is_restart action = action.what == SC_ACTION_RESTART

-- whether a restart is asked for, which takes the right to start
abbrev pub asks_restart : Info → Bool
asks_restart (info.Failure reset command (Some actions)) = list_any is_restart actions
asks_restart asked = false

abbrev pub is_other : Info → Bool
is_other (info.Other level) = true
is_other asked = false

-- a trigger of another type, with another action, with data or without a subtype
abbrev pub is_bad_trigger : TriggerIn → Bool
is_bad_trigger asked =
    not (asked.kind == SERVICE_TRIGGER_TYPE_CUSTOM)
    || not (asked.action == SERVICE_TRIGGER_ACTION_SERVICE_START || asked.action == SERVICE_TRIGGER_ACTION_SERVICE_STOP)
    || is_none asked.subtype
    || not (asked.items == 0)

abbrev pub has_bad_trigger : Info → Bool
has_bad_trigger (info.Triggers list) = list_any is_bad_trigger list
has_bad_trigger asked = false

-- whether the new configuration isn't accepted
abbrev pub is_refused : Info → Option Service → Bool
is_refused asked None = false
is_refused asked (Some row) = not (check_change row.config (level_config asked row) None == 0)

abbrev pub change2_refusals : Flat → ℕ → ℕ → Info → Kept → Refusals
change2_refusals f caller handle asked append =
    (is_none (opened f caller handle), ERROR_INVALID_HANDLE)
    ∷ (
      lacks (opened f caller handle) SERVICE_CHANGE_CONFIG || asks_restart asked
          && lacks (opened f caller handle) SERVICE_START,
      ERROR_ACCESS_DENIED,
    )
    ∷ (is_marked (held_service f caller handle), ERROR_SERVICE_MARKED_FOR_DELETE)
    ∷ (is_other asked, ERROR_INVALID_LEVEL)
    ∷ (has_bad_trigger asked || is_refused asked (held_service f caller handle), ERROR_INVALID_PARAMETER)
    ∷ keeping_refusals append

abbrev pub change2_verdict : Flat → ℕ → ℕ → Info → Kept → ℕ
change2_verdict f caller handle asked append = first_refusal (change2_refusals f caller handle asked append)

-- ## Effect

-- the new configuration that is asked for
abbrev pub asked_level : Flat → ℕ → ℕ → Info → Option Config
asked_level f caller handle asked = option_map (level_config asked) (held_service f caller handle)

abbrev pub change2_done : Flat → ℕ → ℕ → Info → CallResult
change2_done f caller handle asked = record {
  reply = reply.Code 0;
  flat = record f { services = configured_in (level_config asked) (held_service f caller handle) f.services };
}

abbrev pub change2_outcome : Flat → ℕ → ℕ → Info → Kept → CallResult
change2_outcome f caller handle asked append = outcome (change2_verdict f caller handle asked append) (request.Change2 handle asked) f
    (change2_done f caller handle asked)

-- ## What is kept: a level that changes nothing of what is held isn't

abbrev pub level_changed : Info → Service → Option Change
level_changed asked row = changed_from row.config (level_config asked row)

-- the change of a Change2 that is not refused
abbrev pub change2_change : Flat → ℕ → ℕ → Info → Option Change
change2_change f caller handle asked = option_and_then (level_changed asked) (held_service f caller handle)
