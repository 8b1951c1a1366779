-- RCreateServiceW: a stopped service, and a handle of it.
use Rattle.std.specs.Prelude.{◌^◌, ◌-◌, ℕ, Bool, false, ◌||◌, ◌&&◌, ◌==◌, ◌+◌, ◌++◌, nat_le, length, List, [], ◌∷◌, Option, None, Some}
use Rattle.std.specs.Prelude.{is_none, is_some, unwrap_or, option_map, fold, max, min, if◌then◌else◌}
use Rattle.scm_model.specs.declared.flat.Flat.{Flat}
use Rattle.scm_model.specs.declared.flat.Config.{Config}
use Rattle.scm_model.specs.declared.flat.Service.{Service}
use Rattle.scm_model.specs.declared.flat.Status.{Status}
use Rattle.scm_model.specs.declared.flat.Limits.{Limits}
use Rattle.scm_model.specs.declared.flat.HandleKind.TheVariants as kinds
use Rattle.scm_model.specs.declared.calls.NewService.{NewService}
use Rattle.scm_model.specs.declared.calls.Reply.TheVariants as reply
use Rattle.scm_model.specs.declared.steps.Change.{Change}
use Rattle.scm_model.specs.declared.steps.Change.TheVariants.{Created}
use Rattle.scm_model.specs.declared.steps.Kept.{Kept}
use Rattle.scm_model.specs.Rows.{manager_mask, members, named, is_shown, held_by}
use Rattle.scm_model.specs.Notices.{event_of_creation, with_noted}
use Rattle.scm_model.specs.Changes.{with_service, with_handle}
use Rattle.scm_model.specs.Refused.{first_refusal, Refusals, outcome}
use Rattle.scm_model.specs.Outcomes.{CallResult}
use Rattle.scm_model.specs.declared.codes.TheConstants.{ERROR_ACCESS_DENIED, ERROR_CIRCULAR_DEPENDENCY, ERROR_DUPLICATE_SERVICE_NAME}
use Rattle.scm_model.specs.declared.codes.TheConstants.{ERROR_INVALID_HANDLE, ERROR_INVALID_NAME, ERROR_INVALID_PARAMETER}
use Rattle.scm_model.specs.declared.codes.TheConstants.{ERROR_INVALID_SERVICE_ACCOUNT, ERROR_NOT_ENOUGH_QUOTA, ERROR_SERVICE_EXISTS}
use Rattle.scm_model.specs.declared.codes.TheConstants.{ERROR_SERVICE_MARKED_FOR_DELETE}
use Rattle.scm_model.specs.declared.codes.TheConstants.{SC_MANAGER_CREATE_SERVICE}
pub use Rattle.scm_model.specs.Statuses.{new_status}
use Rattle.service_record.specs.Checks.{check_new}
use Rattle.scm_rules.specs.Rights.{manager_lacks}
use Rattle.scm_rules.specs.OpenService.{service_granted}
use Rattle.scm_rules.specs.Delete.{is_marked, keeping_refusals}
use Rattle.scm_rules.specs.Needs.{are_unreadable, makes_cycle, needs_or}
use Rattle.scm_model.specs.declared.calls.Request.TheVariants as request

-- the display name of a new service: its name where none is given
abbrev pub display_of : List ℕ → Option (List ℕ) → List ℕ
display_of name None = name
display_of name (Some display) = if length display == 0 then name else display

-- the greatest tag of some services, or 0
abbrev pub greatest_tag : List Service → ℕ
greatest_tag rows = fold (λ greatest (row : Service). max greatest row.config.tag) 0 rows

-- a tag is one more than the greatest of the group's members, as far as numbers go
abbrev pub next_tag : Flat → List ℕ → ℕ
next_tag f group = min (2 ^ 32 - 1) (greatest_tag (members f group) + 1)

-- the tag of a new service: 0 where none is asked for, or without a group
abbrev pub tag_of : Flat → List ℕ → Option ℕ → ℕ
tag_of f group None = 0
tag_of f group (Some asked) = if length group == 0 then 0 else next_tag f group

-- the configuration of a new service, apart from its tag
abbrev pub tagged_config : ℕ → NewService → Config
tagged_config tag new = record {
  name = new.name;
  display = display_of new.name new.display;
  kind = new.kind;
  start = new.start;
  error = new.error;
  path = new.path;
  group = unwrap_or new.group [];
  tag = tag;
  needs = needs_or [] new.needs;
  description = [];
  reset = 0;
  actions = [];
  command = [];
  on_exit = false;
  delayed = false;
  triggers = [];
}

abbrev pub created_config : Flat → NewService → Config
created_config f new = tagged_config (tag_of f (unwrap_or new.group []) new.tag) new

-- whether a tag is asked for without a group
abbrev pub tags_nothing : NewService → Bool
tags_nothing new = is_some new.tag && length (unwrap_or new.group []) == 0

-- ## Refusals

-- for the caller's rights
abbrev pub right_refusals : Flat → ℕ → NewService → Refusals
right_refusals f caller new =
    (is_none (manager_mask f caller new.handle), ERROR_INVALID_HANDLE)
    ∷ (
      manager_lacks (manager_mask f caller new.handle) SC_MANAGER_CREATE_SERVICE
          || is_none (service_granted f caller new.access),
      ERROR_ACCESS_DENIED,
    )
    ∷ []

-- for what is asked
abbrev pub config_refusals : NewService → Config → Refusals
config_refusals new config =
    (check_new config new.account == ERROR_INVALID_NAME, ERROR_INVALID_NAME)
    ∷ (check_new config new.account == ERROR_INVALID_PARAMETER || tags_nothing new || are_unreadable new.needs, ERROR_INVALID_PARAMETER)
    ∷ (check_new config new.account == ERROR_INVALID_SERVICE_ACCOUNT, ERROR_INVALID_SERVICE_ACCOUNT)
    ∷ []

-- for the services that there are
abbrev pub place_refusals : Limits → Flat → ℕ → Config → Refusals
place_refusals l f caller config =
    (is_marked (named f config.name), ERROR_SERVICE_MARKED_FOR_DELETE)
    ∷ (is_some (named f config.name), ERROR_SERVICE_EXISTS)
    ∷ (is_shown f config.display, ERROR_DUPLICATE_SERVICE_NAME)
    ∷ (makes_cycle f f.next.service config, ERROR_CIRCULAR_DEPENDENCY)
    ∷ (nat_le l.services (length f.services) || nat_le l.handles (held_by f caller), ERROR_NOT_ENOUGH_QUOTA)
    ∷ []

abbrev pub create_refusals : Limits → Flat → ℕ → NewService → Kept → Refusals
create_refusals l f caller new append =
    right_refusals f caller new ++ config_refusals new (created_config f new) ++ place_refusals l f caller (created_config f new)
    ++ keeping_refusals append

abbrev pub create_verdict : Limits → Flat → ℕ → NewService → Kept → ℕ
create_verdict l f caller new append = first_refusal (create_refusals l f caller new append)

-- ## Effect

-- the tag is returned if the call asked for one
abbrev pub told_tag : ℕ → Option ℕ → Option ℕ
told_tag tag asked = option_map (λ number. tag) asked

-- adds a service, and the manager's registrations are notified of it
abbrev pub with_creation : Flat → Config → Status → Flat
with_creation f config status = with_noted (with_service f config status) (event_of_creation config.name status)

abbrev pub create_done : Flat → ℕ → NewService → CallResult
create_done f caller new = record {
  reply = reply.Made (told_tag (created_config f new).tag new.tag) f.next.handle 0;
  flat = with_handle (with_creation f (created_config f new) (new_status new.kind)) caller (kinds.Service f.next.service)
      (unwrap_or (service_granted f caller new.access) 0);
}

-- the change of a Create that is not refused
abbrev pub create_change : Flat → NewService → Option Change
create_change f new = Some (Created (created_config f new))

abbrev pub create_outcome : Limits → Flat → ℕ → NewService → Kept → CallResult
create_outcome l f caller new append = outcome (create_verdict l f caller new append) (request.Create new) f (create_done f caller new)
