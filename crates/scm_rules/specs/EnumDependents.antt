-- REnumDependentServicesW: the services that need a service by name.
use Rattle.std.specs.Prelude.{◌^◌, ◌-◌, ℕ, Bool, not, ◌&&◌, ◌==◌, bit_and, nat_le, nat_lt, length, min, List, [], ◌∷◌, Option, None, Some}
use Rattle.std.specs.Prelude.{filter, filter_map, is_none, if◌then◌else◌}
use Rattle.scm_model.specs.declared.flat.Flat.{Flat}
use Rattle.scm_model.specs.declared.flat.Opened.{Opened}
use Rattle.scm_model.specs.declared.flat.Service.{Service}
use Rattle.scm_model.specs.declared.calls.Reply.{Reply}
use Rattle.scm_model.specs.declared.calls.Reply.TheVariants as reply
use Rattle.scm_model.specs.Rows.{opened, service_of}
use Rattle.scm_model.specs.Refused.{answered, first_refusal, Refusals}
use Rattle.scm_model.specs.Outcomes.{CallResult}
use Rattle.scm_model.specs.declared.codes.TheConstants.{ERROR_ACCESS_DENIED, ERROR_INVALID_HANDLE, ERROR_INVALID_PARAMETER, ERROR_MORE_DATA}
use Rattle.scm_model.specs.declared.codes.TheConstants.{SERVICE_ACTIVE, SERVICE_ENUMERATE_DEPENDENTS, SERVICE_INACTIVE, SERVICE_STATE_ALL}
use Rattle.scm_model.specs.declared.codes.TheConstants.{SERVICE_STOPPED}
use Rattle.scm_model.specs.Order.{is_cyclic}
use Rattle.dependency_index.specs.Dependents.{dependents_in}
use Rattle.service_listing.specs.Layout.{listing_bytes, listing_size}
use Rattle.scm_rules.specs.Needs.{need_rows}
use Rattle.scm_rules.specs.Rights.{lacks}

-- ## Which services are listed

-- a service is inactive where it is STOPPED, else active
abbrev pub activity_of : ℕ → ℕ
activity_of state = if state == SERVICE_STOPPED then SERVICE_INACTIVE else SERVICE_ACTIVE

abbrev pub is_in_states : ℕ → Service → Bool
is_in_states states row = not (bit_and states (activity_of row.status.state) == 0)

-- active, inactive or both are asked for
abbrev pub are_states : ℕ → Bool
are_states states = nat_le 1 states && nat_le states SERVICE_STATE_ALL

-- the services with these numbers
abbrev pub services_of : Flat → List ℕ → List Service
services_of f numbers = filter_map (service_of f) numbers

-- the dependents in the order in which they are stopped; none where the needs had a cycle, which those of no state that a run reaches have
abbrev pub stop_order : Flat → ℕ → List ℕ
stop_order f target = if is_cyclic (need_rows f.services) then [] else dependents_in (need_rows f.services) target

abbrev pub listed_dependents : Flat → ℕ → ℕ → List Service
listed_dependents f target states = filter (is_in_states states) (services_of f (stop_order f target))

abbrev pub listed_for : Flat → ℕ → Option Opened → List Service
listed_for f states None = []
listed_for f states (Some of) = listed_dependents f of.service states

-- what is listed by a caller's handle
abbrev pub dependents_by : Flat → ℕ → ℕ → ℕ → List Service
dependents_by f caller handle states = listed_for f states (opened f caller handle)

-- how much room that takes, as far as numbers go
abbrev pub told_size : List Service → ℕ
told_size rows = min (2 ^ 32 - 1) (listing_size rows)

-- ## Refusals and effect

abbrev pub enum_dependents_refusals : Flat → ℕ → ℕ → ℕ → ℕ → Refusals
enum_dependents_refusals f caller handle states size =
    (is_none (opened f caller handle), ERROR_INVALID_HANDLE)
    ∷ (lacks (opened f caller handle) SERVICE_ENUMERATE_DEPENDENTS, ERROR_ACCESS_DENIED)
    ∷ (not (are_states states), ERROR_INVALID_PARAMETER)
    ∷ (nat_lt size (listing_size (dependents_by f caller handle states)), ERROR_MORE_DATA)
    ∷ []

abbrev pub enum_dependents_verdict : Flat → ℕ → ℕ → ℕ → ℕ → ℕ
enum_dependents_verdict f caller handle states size = first_refusal (enum_dependents_refusals f caller handle states size)

-- if the size is too small, the reply has the size needed for all of them
abbrev pub enum_dependents_told : Flat → ℕ → ℕ → ℕ → ℕ → ℕ → Reply
enum_dependents_told f caller handle states size code =
    reply.Listing size [] (if code == ERROR_MORE_DATA then told_size (dependents_by f caller handle states) else 0) 0 code

-- all of them
abbrev pub enum_dependents_done : Flat → ℕ → ℕ → ℕ → ℕ → CallResult
enum_dependents_done f caller handle states size =
    let rows = dependents_by f caller handle states in
    record { reply = reply.Listing size (listing_bytes rows) 0 (length rows) 0; flat = f }

-- what the call is answered
abbrev pub enum_dependents_reply : Flat → ℕ → ℕ → ℕ → ℕ → Reply
enum_dependents_reply f caller handle states size =
    let code = enum_dependents_verdict f caller handle states size in
    (answered code (enum_dependents_told f caller handle states size code) f (enum_dependents_done f caller handle states size)).reply
