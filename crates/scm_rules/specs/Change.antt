-- RChangeServiceConfigW: a service gets another configuration.
use Rattle.std.specs.Prelude.{ℕ, Bool, true, false, not, ◌||◌, ◌&&◌, ◌==◌, ◌++◌, List, [], ◌∷◌, length, Option, None, Some, is_none}
use Rattle.std.specs.Prelude.{is_some, unwrap_or, map, option_map, option_and_then, if◌then◌else◌}
use Rattle.std.specs.Cmp.Lexicographic.{pointwise}
use Rattle.scm_model.specs.declared.flat.Flat.{Flat}
use Rattle.scm_model.specs.declared.flat.Action.{Action}
use Rattle.scm_model.specs.declared.flat.Config.{Config}
use Rattle.scm_model.specs.declared.flat.Need.{Need}
use Rattle.scm_model.specs.declared.flat.Need.TheVariants as needs
use Rattle.scm_model.specs.declared.flat.Trigger.{Trigger}
use Rattle.scm_model.specs.declared.flat.Service.{Service}
use Rattle.scm_model.specs.declared.calls.ChangeService.{ChangeService}
use Rattle.scm_model.specs.declared.calls.Reply.TheVariants as reply
use Rattle.scm_model.specs.declared.steps.Change.{Change}
use Rattle.scm_model.specs.declared.steps.Change.TheVariants.{Changed}
use Rattle.scm_model.specs.declared.steps.Kept.{Kept}
use Rattle.scm_model.specs.Found.{if_found}
use Rattle.scm_model.specs.Rows.{held_service, opened, is_shown_by_another}
use Rattle.scm_model.specs.Changes.{configured_if}
use Rattle.scm_model.specs.Refused.{first_refusal, Refusals, outcome}
use Rattle.scm_model.specs.Outcomes.{CallResult}
use Rattle.scm_model.specs.declared.codes.TheConstants.{ERROR_ACCESS_DENIED, ERROR_CIRCULAR_DEPENDENCY, ERROR_DUPLICATE_SERVICE_NAME}
use Rattle.scm_model.specs.declared.codes.TheConstants.{ERROR_INVALID_HANDLE, ERROR_INVALID_NAME, ERROR_INVALID_PARAMETER}
use Rattle.scm_model.specs.declared.codes.TheConstants.{ERROR_INVALID_SERVICE_ACCOUNT, ERROR_SERVICE_MARKED_FOR_DELETE, SERVICE_AUTO_START}
use Rattle.scm_model.specs.declared.codes.TheConstants.{SERVICE_CHANGE_CONFIG, SERVICE_NO_CHANGE}
use Rattle.service_record.specs.Checks.{check_change}
use Rattle.scm_rules.specs.Rights.{lacks}
use Rattle.scm_rules.specs.Delete.{is_marked, keeping_refusals}
use Rattle.scm_rules.specs.Create.{display_of, next_tag, told_tag}
use Rattle.scm_rules.specs.Needs.{are_unreadable, makes_cycle, needs_or}
use Rattle.scm_model.specs.declared.calls.Request.TheVariants as request

-- ## The new configuration

-- a number that is asked for; 0xFFFFFFFF leaves the old one
abbrev pub number_or : ℕ → ℕ → ℕ
number_or old asked = if asked == SERVICE_NO_CHANGE then old else asked

-- a display name that is asked for; an empty one is the name
abbrev pub display_or : Config → Option (List ℕ) → List ℕ
display_or old None = old.display
display_or old (Some display) = display_of old.name (Some display)

-- the tag of a service in the group that it will be in: a new one where that is asked for
abbrev pub tag_or : Flat → Config → List ℕ → Option ℕ → ℕ
tag_or f old group None = old.tag
tag_or f old group (Some asked) = next_tag f group

-- what is asked for takes the place of what was there, apart from the tag; only an automatic start is delayed
abbrev pub config_with : ℕ → Config → ChangeService → Config
config_with tag old change = record old {
  display = display_or old change.display;
  kind = number_or old.kind change.kind;
  start = number_or old.start change.start;
  error = number_or old.error change.error;
  path = unwrap_or change.path old.path;
  group = unwrap_or change.group old.group;
  tag = tag;
  needs = needs_or old.needs change.needs;
  delayed = old.delayed && number_or old.start change.start == SERVICE_AUTO_START;
}

abbrev pub changed_config : Flat → ChangeService → Config → Config
changed_config f change old = config_with (tag_or f old (unwrap_or change.group old.group) change.tag) old change

-- the new configuration of a service that is there
abbrev pub new_config : Flat → ChangeService → Service → Config
new_config f change row = changed_config f change row.config

-- ## Refusals

-- what the new configuration is refused with, or 0
abbrev pub checked : Flat → ChangeService → Option Service → ℕ
checked f change None = 0
checked f change (Some row) = check_change row.config (new_config f change row) change.account

-- whether a tag is asked for without a group
abbrev pub tags_no_group : ChangeService → Option Service → Bool
tags_no_group change None = false
tags_no_group change (Some row) = is_some change.tag && length (unwrap_or change.group row.config.group) == 0

-- whether a display name is given that another service has as its name or display name
abbrev pub takes_name : Flat → ChangeService → Option Service → Bool
takes_name f change None = false
takes_name f change (Some row) = is_some change.display && is_shown_by_another f row.number (display_or row.config change.display)

-- whether needs would have a cycle with the new configuration
abbrev pub loops : Flat → ChangeService → Option Service → Bool
loops f change None = false
loops f change (Some row) = makes_cycle f row.number (new_config f change row)

-- for the caller's rights
abbrev pub changing_refusals : Flat → ℕ → ChangeService → Refusals
changing_refusals f caller change =
    (is_none (opened f caller change.handle), ERROR_INVALID_HANDLE)
    ∷ (lacks (opened f caller change.handle) SERVICE_CHANGE_CONFIG, ERROR_ACCESS_DENIED)
    ∷ []

-- for what is asked of a service
abbrev pub asked_refusals : Flat → ChangeService → Option Service → Refusals
asked_refusals f change service =
    (checked f change service == ERROR_INVALID_NAME, ERROR_INVALID_NAME)
    ∷ (
      checked f change service == ERROR_INVALID_PARAMETER || tags_no_group change service
          || are_unreadable change.needs,
      ERROR_INVALID_PARAMETER,
    )
    ∷ (checked f change service == ERROR_INVALID_SERVICE_ACCOUNT, ERROR_INVALID_SERVICE_ACCOUNT)
    ∷ []

-- for the other services
abbrev pub clash_refusals : Flat → ChangeService → Option Service → Refusals
clash_refusals f change service = (takes_name f change service, ERROR_DUPLICATE_SERVICE_NAME) ∷
    (loops f change service, ERROR_CIRCULAR_DEPENDENCY) ∷ []

-- for the service, where the caller may change it
abbrev pub row_refusals : Flat → ChangeService → Option Service → Refusals
row_refusals f change service = (is_marked service, ERROR_SERVICE_MARKED_FOR_DELETE) ∷ asked_refusals f change service
    ++ clash_refusals f change service

abbrev pub change_refusals : Flat → ℕ → ChangeService → Kept → Refusals
change_refusals f caller change append =
    changing_refusals f caller change ++ row_refusals f change (held_service f caller change.handle) ++ keeping_refusals append

abbrev pub change_verdict : Flat → ℕ → ChangeService → Kept → ℕ
change_verdict f caller change append = first_refusal (change_refusals f caller change append)

-- ## Effect

-- the new configuration that is asked for
abbrev pub asked_config : Flat → ℕ → ChangeService → Option Config
asked_config f caller change = option_map (new_config f change) (held_service f caller change.handle)

-- the tag of a new configuration, where one was asked for
abbrev pub new_tag : ChangeService → Option Config → Option ℕ
new_tag change config = option_and_then (λ (new : Config). told_tag new.tag change.tag) config

-- the services with a new configuration of the one that was found
abbrev pub configured_in : (Service → Config) → Option Service → List Service → List Service
configured_in new = if_found (λ row. map (configured_if row.number (new row)))

abbrev pub change_done : Flat → ℕ → ChangeService → CallResult
change_done f caller change = record {
  reply = reply.Tag (new_tag change (asked_config f caller change)) 0;
  flat = record f { services = configured_in (new_config f change) (held_service f caller change.handle) f.services };
}

abbrev pub change_outcome : Flat → ℕ → ChangeService → Kept → CallResult
change_outcome f caller change append = outcome (change_verdict f caller change append) (request.Change change) f
    (change_done f caller change)

-- ## What is kept

abbrev pub is_text : List ℕ → List ℕ → Bool
is_text old new = pointwise ◌==◌ old new

abbrev pub is_flag : Bool → Bool → Bool
is_flag true new = new
is_flag false new = not new

abbrev pub is_need : Need → Need → Bool
is_need (needs.Service old) (needs.Service new) = is_text old new
is_need (needs.Group old) (needs.Group new) = is_text old new
is_need old new = false

abbrev pub is_action : Action → Action → Bool
is_action old new = old.what == new.what && old.delay == new.delay

abbrev pub is_trigger : Trigger → Trigger → Bool
is_trigger old new = old.action == new.action && is_text old.subtype new.subtype

abbrev pub front_alike : Config → Config → Bool
front_alike old new =
    is_text old.name new.name && is_text old.display new.display && old.kind == new.kind && old.start == new.start
    && old.error == new.error && is_text old.path new.path

abbrev pub middle_alike : Config → Config → Bool
middle_alike old new =
    is_text old.group new.group && old.tag == new.tag && pointwise is_need old.needs new.needs
    && is_text old.description new.description

abbrev pub end_alike : Config → Config → Bool
end_alike old new =
    old.reset == new.reset && pointwise is_action old.actions new.actions && is_text old.command new.command
    && is_flag old.on_exit new.on_exit && is_flag old.delayed new.delayed && pointwise is_trigger old.triggers new.triggers

-- whether two configurations are equal, unit for unit
abbrev pub config_alike : Config → Config → Bool
config_alike old new = front_alike old new && middle_alike old new && end_alike old new

-- a change that changes nothing isn't kept
abbrev pub changed_from : Config → Config → Option Change
changed_from old new = if config_alike old new then None else Some (Changed new)

abbrev pub changed_row : Flat → ChangeService → Service → Option Change
changed_row f change row = changed_from row.config (new_config f change row)

-- the change of a Change that is not refused
abbrev pub change_change : Flat → ℕ → ChangeService → Option Change
change_change f caller change = option_and_then (changed_row f change) (held_service f caller change.handle)
