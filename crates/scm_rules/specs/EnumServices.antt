-- REnumServicesStatusW: the services, page by page.
use Rattle.std.specs.Prelude.{◌^◌, ◌-◌, ℕ, Bool, not, ◌&&◌, ◌||◌, ◌==◌, bit_and, nat_lt, length, min, List, [], ◌∷◌, Option, filter}
use Rattle.std.specs.Prelude.{is_none, option_map, unwrap_or, if◌then◌else◌}
use Rattle.scm_model.specs.declared.flat.Flat.{Flat}
use Rattle.scm_model.specs.declared.flat.Service.{Service}
use Rattle.scm_model.specs.declared.calls.Reply.{Reply}
use Rattle.scm_model.specs.declared.calls.Reply.TheVariants as reply
use Rattle.scm_model.specs.Rows.{manager_mask}
use Rattle.scm_model.specs.Refused.{answered, first_refusal, Refusals}
use Rattle.scm_model.specs.Outcomes.{CallResult}
use Rattle.scm_model.specs.declared.codes.TheConstants.{ERROR_ACCESS_DENIED, ERROR_INVALID_HANDLE, ERROR_INVALID_PARAMETER, ERROR_MORE_DATA}
use Rattle.scm_model.specs.declared.codes.TheConstants.{MAX_ENUM_SIZE, SC_MANAGER_ENUMERATE_SERVICE}
use Rattle.service_listing.specs.Layout.{listing_bytes, listing_size}
use Rattle.service_listing.specs.Pages.{left_of, page_in}
use Rattle.scm_rules.specs.EnumDependents.{are_states, is_in_states}
use Rattle.scm_rules.specs.Rights.{manager_lacks}

-- ## Which services are listed

-- whether a service comes after a number, has one of the types and is in one of the states
abbrev pub is_asked : ℕ → ℕ → ℕ → Service → Bool
is_asked kinds states after row = nat_lt after row.number && not (bit_and kinds row.config.kind == 0) && is_in_states states row

-- those after the number at which the call resumes, in order of their numbers
abbrev pub services_asked : Flat → ℕ → ℕ → Option ℕ → List Service
services_asked f kinds states resume = filter (is_asked kinds states (unwrap_or resume 0)) f.services

-- the number of the last service, as far as numbers go, or another where there is none
abbrev pub last_number : ℕ → List Service → ℕ
last_number none [] = none
last_number none (row ∷ rows) = last_number (min (2 ^ 32 - 1) row.number) rows

-- ## Refusals and effect

abbrev pub enum_services_refusals : Flat → ℕ → ℕ → ℕ → ℕ → ℕ → Option ℕ → Refusals
enum_services_refusals f caller handle kinds states size resume =
    (is_none (manager_mask f caller handle), ERROR_INVALID_HANDLE)
    ∷ (manager_lacks (manager_mask f caller handle) SC_MANAGER_ENUMERATE_SERVICE, ERROR_ACCESS_DENIED)
    ∷ (kinds == 0 || not (are_states states), ERROR_INVALID_PARAMETER)
    ∷ (nat_lt size (listing_size (services_asked f kinds states resume)), ERROR_MORE_DATA)
    ∷ []

abbrev pub enum_services_verdict : Flat → ℕ → ℕ → ℕ → ℕ → ℕ → Option ℕ → ℕ
enum_services_verdict f caller handle kinds states size resume = first_refusal
    (enum_services_refusals f caller handle kinds states size resume)

-- what fits, how much is needed for what is left, and the number of the last that is given
abbrev pub page_of : ℕ → Option ℕ → List Service → Reply
page_of size resume rows =
    let page = page_in size rows in
    reply.Page size (listing_bytes page) (min MAX_ENUM_SIZE (listing_size (left_of size rows))) (length page)
    (option_map (λ read. last_number read page) resume) ERROR_MORE_DATA

abbrev pub enum_services_told : Flat → ℕ → ℕ → ℕ → Option ℕ → ℕ → Reply
enum_services_told f kinds states size resume code =
    if code == ERROR_MORE_DATA then page_of size resume (services_asked f kinds states resume) else reply.Page size [] 0 0 resume code

-- all of them; the next page would begin with the first again
abbrev pub enum_services_done : Flat → ℕ → ℕ → ℕ → Option ℕ → CallResult
enum_services_done f kinds states size resume =
    let rows = services_asked f kinds states resume in
    record { reply = reply.Page size (listing_bytes rows) 0 (length rows) (option_map (λ read. 0) resume) 0; flat = f }

-- what the call is answered
abbrev pub enum_services_reply : Flat → ℕ → ℕ → ℕ → ℕ → ℕ → Option ℕ → Reply
enum_services_reply f caller handle kinds states size resume =
    let code = enum_services_verdict f caller handle kinds states size resume in
    (answered code (enum_services_told f kinds states size resume code) f (enum_services_done f kinds states size resume)).reply
