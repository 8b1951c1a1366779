-- RQueryServiceConfig2W: a level of a service's configuration.
use Rattle.std.specs.Prelude.{ℕ, not, ◌^◌, ◌-◌, ◌==◌, nat_lt, List, [], ◌∷◌, length, min, Option, is_none, option_and_then, unwrap_or}
use Rattle.std.specs.Prelude.{if◌then◌else◌}
use Rattle.scm_model.specs.declared.flat.Flat.{Flat}
use Rattle.scm_model.specs.declared.flat.Service.{Service}
use Rattle.scm_model.specs.declared.calls.Reply.{Reply}
use Rattle.scm_model.specs.declared.calls.Reply.TheVariants as reply
use Rattle.scm_model.specs.Ranges.{is_level}
use Rattle.scm_model.specs.Rows.{held_service, opened}
use Rattle.scm_model.specs.Refused.{answered, first_refusal, Refusals}
use Rattle.scm_model.specs.Outcomes.{CallResult}
use Rattle.scm_model.specs.declared.codes.TheConstants.{ERROR_ACCESS_DENIED, ERROR_INSUFFICIENT_BUFFER, ERROR_INVALID_HANDLE}
use Rattle.scm_model.specs.declared.codes.TheConstants.{ERROR_INVALID_LEVEL, SERVICE_QUERY_CONFIG}
use Rattle.service_listing.specs.Levels.{level_bytes}
use Rattle.scm_rules.specs.Rights.{lacks}

-- the level of a service that is there, or no bytes
abbrev pub level_in : ℕ → Option Service → List ℕ
level_in level service = unwrap_or (option_and_then (λ (row : Service). level_bytes level row.config) service) []

abbrev pub level_by : Flat → ℕ → ℕ → ℕ → List ℕ
level_by f caller handle level = level_in level (held_service f caller handle)

-- how many bytes they are, as far as numbers go
abbrev pub level_size : Flat → ℕ → ℕ → ℕ → ℕ
level_size f caller handle level = min (2 ^ 32 - 1) (length (level_by f caller handle level))

abbrev pub query_config2_refusals : Flat → ℕ → ℕ → ℕ → ℕ → Refusals
query_config2_refusals f caller handle level size =
    (is_none (opened f caller handle), ERROR_INVALID_HANDLE)
    ∷ (lacks (opened f caller handle) SERVICE_QUERY_CONFIG, ERROR_ACCESS_DENIED)
    ∷ (not (is_level level), ERROR_INVALID_LEVEL)
    ∷ (nat_lt size (level_size f caller handle level), ERROR_INSUFFICIENT_BUFFER)
    ∷ []

abbrev pub query_config2_verdict : Flat → ℕ → ℕ → ℕ → ℕ → ℕ
query_config2_verdict f caller handle level size = first_refusal (query_config2_refusals f caller handle level size)

-- if the size is too small, the reply has the size needed
abbrev pub query_config2_told : Flat → ℕ → ℕ → ℕ → ℕ → ℕ → Reply
query_config2_told f caller handle level size code =
    reply.Bytes size [] (if code == ERROR_INSUFFICIENT_BUFFER then level_size f caller handle level else 0) code

abbrev pub query_config2_done : Flat → ℕ → ℕ → ℕ → ℕ → CallResult
query_config2_done f caller handle level size = record { reply = reply.Bytes size (level_by f caller handle level) 0 0; flat = f }

-- what the call is answered
abbrev pub query_config2_reply : Flat → ℕ → ℕ → ℕ → ℕ → Reply
query_config2_reply f caller handle level size =
    let code = query_config2_verdict f caller handle level size in
    (answered code (query_config2_told f caller handle level size code) f (query_config2_done f caller handle level size)).reply
