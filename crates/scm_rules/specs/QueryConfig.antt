-- RQueryServiceConfigW: what a service is configured as.
use Rattle.std.specs.Prelude.{◌^◌, ◌-◌, ℕ, ◌+◌, ◌++◌, ◌==◌, nat_lt, codes, min, List, [], ◌∷◌, Option, None, Some, is_none}
use Rattle.std.specs.Prelude.{if◌then◌else◌}
use Rattle.std.specs.List.{flat_map}
use Rattle.scm_model.specs.declared.flat.Flat.{Flat}
use Rattle.scm_model.specs.declared.flat.Config.{Config}
use Rattle.scm_model.specs.declared.flat.Service.{Service}
use Rattle.scm_model.specs.declared.flat.Need.{Need}
use Rattle.scm_model.specs.declared.flat.Need.TheVariants as needs
use Rattle.scm_model.specs.declared.calls.Shown.{Shown}
use Rattle.scm_model.specs.declared.calls.Reply.{Reply}
use Rattle.scm_model.specs.declared.calls.Reply.TheVariants as reply
use Rattle.scm_model.specs.Rows.{held_service, opened}
use Rattle.scm_model.specs.Refused.{answered, first_refusal, Refusals}
use Rattle.scm_model.specs.Outcomes.{CallResult}
use Rattle.scm_model.specs.declared.codes.TheConstants.{ERROR_ACCESS_DENIED, ERROR_INSUFFICIENT_BUFFER, ERROR_INVALID_HANDLE}
use Rattle.scm_model.specs.declared.codes.TheConstants.{SERVICE_QUERY_CONFIG}
use Rattle.scm_rules.specs.Rights.{lacks}
use Rattle.service_listing.specs.Layout.{text_size}

-- ## What is shown

-- a need as it is shown: a group has + before it, and each is followed by /
abbrev pub shown_need : Need → List ℕ
shown_need (needs.Service name) = name ++ codes "/"
shown_need (needs.Group name) = codes "+" ++ name ++ codes "/"

abbrev pub shown_needs : List Need → List ℕ
shown_needs rows = flat_map shown_need rows

-- services run as LocalSystem
abbrev pub shown_of : Config → Shown
shown_of config = record {
  kind = config.kind;
  start = config.start;
  error = config.error;
  path = config.path;
  group = config.group;
  tag = config.tag;
  needs = shown_needs config.needs;
  account = codes "LocalSystem";
  display = config.display;
}

-- ## How much room it takes

-- 36 bytes, and the five texts, as far as numbers go
abbrev pub shown_size : Shown → ℕ
shown_size s = min (2 ^ 32 - 1) (36 + text_size s.path + text_size s.group + text_size s.needs + text_size s.account + text_size s.display)

-- what is shown of a service that is there
abbrev pub shown_in : Option Service → Option Shown
shown_in None = None
shown_in (Some row) = Some (shown_of row.config)

abbrev pub size_in : Option Shown → ℕ
size_in None = 0
size_in (Some s) = shown_size s

-- what is shown by a caller's handle
abbrev pub shown_by : Flat → ℕ → ℕ → Option Shown
shown_by f caller handle = shown_in (held_service f caller handle)

-- ## Refusals and effect

abbrev pub query_config_refusals : Flat → ℕ → ℕ → ℕ → Refusals
query_config_refusals f caller handle size =
    (is_none (opened f caller handle), ERROR_INVALID_HANDLE)
    ∷ (lacks (opened f caller handle) SERVICE_QUERY_CONFIG, ERROR_ACCESS_DENIED)
    ∷ (nat_lt size (size_in (shown_by f caller handle)), ERROR_INSUFFICIENT_BUFFER)
    ∷ []

abbrev pub query_config_verdict : Flat → ℕ → ℕ → ℕ → ℕ
query_config_verdict f caller handle size = first_refusal (query_config_refusals f caller handle size)

-- if the size is too small, the reply has the size needed
abbrev pub query_config_told : Flat → ℕ → ℕ → ℕ → Reply
query_config_told f caller handle code = reply.Shown None (if code == ERROR_INSUFFICIENT_BUFFER then size_in (shown_by f caller handle)
    else 0) code

abbrev pub query_config_done : Flat → ℕ → ℕ → CallResult
query_config_done f caller handle = record {
  reply = reply.Shown (shown_by f caller handle) (size_in (shown_by f caller handle)) 0;
  flat = f;
}

-- what the call is answered
abbrev pub query_config_reply : Flat → ℕ → ℕ → ℕ → Reply
query_config_reply f caller handle size =
    (answered (query_config_verdict f caller handle size) (query_config_told f caller handle (query_config_verdict f caller handle size)) f
    (query_config_done f caller handle)).reply
