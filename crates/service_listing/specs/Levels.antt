-- The levels of a configuration as bytes, which begin with the offsets of what has no fixed size.
use Rattle.std.specs.Prelude.{ℕ, Bool, ◌+◌, ◌*◌, ◌++◌, ◌==◌, List, [], ◌∷◌, Option, None, Some, length, if◌then◌else◌}
use Rattle.std.specs.List.{flat_map}
use Rattle.scm_model.specs.declared.codes.TheConstants.{SERVICE_CONFIG_DELAYED_AUTO_START_INFO, SERVICE_CONFIG_DESCRIPTION}
use Rattle.scm_model.specs.declared.codes.TheConstants.{SERVICE_CONFIG_FAILURE_ACTIONS, SERVICE_CONFIG_FAILURE_ACTIONS_FLAG}
use Rattle.scm_model.specs.declared.codes.TheConstants.{SERVICE_CONFIG_TRIGGER_INFO, SERVICE_TRIGGER_TYPE_CUSTOM}
use Rattle.scm_model.specs.declared.flat.Action.{Action}
use Rattle.scm_model.specs.declared.flat.Config.{Config}
use Rattle.scm_model.specs.declared.flat.Trigger.{Trigger}
use Rattle.service_listing.specs.Layout.{numbers_bytes, name_bytes}

-- the offset of a list that stands at a place, or 0 where it is empty
abbrev pub offset_at : {X : Type 0} → ℕ → List X → ℕ
offset_at place list = if length list == 0 then 0 else place

-- the text with its zero, or nothing where it is empty
abbrev pub some_text_bytes : List ℕ → List ℕ
some_text_bytes text = if length text == 0 then [] else name_bytes text

-- an offset, and the text
abbrev pub description_bytes : List ℕ → List ℕ
description_bytes description = numbers_bytes (offset_at 4 description ∷ []) ++ some_text_bytes description

abbrev pub action_bytes : Action → List ℕ
action_bytes action = numbers_bytes (action.what ∷ action.delay ∷ [])

-- the reset period, no reboot message, where the command stands, and how many actions stand where
abbrev pub failure_numbers : Config → List ℕ
failure_numbers config = config.reset ∷ 0 ∷ offset_at (20 + 8 * length config.actions) config.command ∷ length config.actions ∷ offset_at 20
    config.actions ∷ []

-- five numbers, the actions and the command
abbrev pub failure_bytes : Config → List ℕ
failure_bytes config = numbers_bytes (failure_numbers config) ++ flat_map action_bytes config.actions ++ some_text_bytes config.command

abbrev pub flag_bytes : Bool → List ℕ
flag_bytes on = numbers_bytes ((if on then 1 else 0) ∷ [])

abbrev pub trigger_bytes : Trigger → List ℕ
trigger_bytes trigger = numbers_bytes (SERVICE_TRIGGER_TYPE_CUSTOM ∷ trigger.action ∷ []) ++ trigger.subtype

-- a count, and the triggers
abbrev pub triggers_bytes : List Trigger → List ℕ
triggers_bytes triggers = numbers_bytes (length triggers ∷ []) ++ flat_map trigger_bytes triggers

-- a level of a configuration; none where there is no such level
abbrev pub level_bytes : ℕ → Config → Option (List ℕ)
level_bytes level config =
    if level == SERVICE_CONFIG_DESCRIPTION then Some (description_bytes config.description)
    else if level == SERVICE_CONFIG_FAILURE_ACTIONS then Some (failure_bytes config)
    else if level == SERVICE_CONFIG_DELAYED_AUTO_START_INFO then Some (flag_bytes config.delayed)
    else if level == SERVICE_CONFIG_FAILURE_ACTIONS_FLAG then Some (flag_bytes config.on_exit)
    else if level == SERVICE_CONFIG_TRIGGER_INFO then Some (triggers_bytes config.triggers)
    else None
