-- RQueryServiceObjectSecurity and RSetServiceObjectSecurity: a service's security descriptor. It also narrows what a caller that opens the
-- service is granted.
use Rattle.std.specs.Prelude.{ℕ, Bool, false, ◌^◌, ◌-◌, ◌==◌, ◌||◌, nat_lt, List, [], ◌∷◌, length, min, map, Option, None, Some, bit_and}
use Rattle.std.specs.Prelude.{bit_or, is_none, option_and_then, option_map, unwrap_or, if◌then◌else◌}
use Rattle.std.specs.List.{list_all}
use Rattle.std.specs.Result.{result_ok}
use Rattle.scm_model.specs.declared.flat.Flat.{Flat}
use Rattle.scm_model.specs.declared.flat.Service.{Service}
use Rattle.scm_model.specs.declared.calls.Reply.{Reply}
use Rattle.scm_model.specs.declared.calls.Reply.TheVariants as reply
use Rattle.scm_model.specs.declared.calls.Request.TheVariants as request
use Rattle.scm_model.specs.declared.codes.TheConstants.{ERROR_ACCESS_DENIED, ERROR_INSUFFICIENT_BUFFER, ERROR_INVALID_HANDLE}
use Rattle.scm_model.specs.declared.codes.TheConstants.{ERROR_INVALID_PARAMETER, ERROR_SERVICE_MARKED_FOR_DELETE}
use Rattle.scm_model.specs.Found.{if_found}
use Rattle.scm_model.specs.Outcomes.{CallResult}
use Rattle.scm_model.specs.Refused.{answered, first_refusal, outcome, Refusals}
use Rattle.scm_model.specs.Rows.{held_service, named, opened, principal_of}
use Rattle.access_mask.specs.Granted.{map_generic}
use Rattle.sec_desc.specs.declared.codes.TheConstants.{DACL_SECURITY_INFORMATION, GROUP_SECURITY_INFORMATION, OWNER_SECURITY_INFORMATION}
use Rattle.sec_desc.specs.declared.codes.TheConstants.{READ_CONTROL, WRITE_DAC, WRITE_OWNER}
use Rattle.sec_desc.specs.declared.value.Ace.{Ace}
use Rattle.sec_desc.specs.declared.value.Descriptor.{Descriptor}
use Rattle.sec_desc.specs.declared.value.Sid.{Sid}
use Rattle.sec_desc.specs.Reading.{described}
use Rattle.sec_desc.specs.Writing.{IsWritten, descriptor_bytes}
use Rattle.sec_check.specs.Allowed.{administrators, allowed_by, list_of, users}
use Rattle.scm_text.specs.Numbers.{has_bits}
use Rattle.scm_rules.specs.Delete.{is_marked}
use Rattle.scm_rules.specs.Rights.{lacks}

-- ## A service's descriptor

-- S-1-5-18
abbrev pub local_system : Sid
local_system = record { authority = 0 ∷ 0 ∷ 0 ∷ 0 ∷ 0 ∷ 5 ∷ []; parts = 18 ∷ [] }

abbrev pub allow : Sid → ℕ → Ace
allow sid mask = record { deny = false; flags = 0; mask = mask; sid = sid }

-- the descriptor of a service for which none was set
abbrev pub default_descriptor : Descriptor
default_descriptor = record {
  owner = Some local_system;
  group = Some local_system;
  list = Some (allow administrators 0xF81FF ∷ allow users 0x2008D ∷ []);
}

-- the descriptor that a service's bytes stand for
abbrev pub base : List ℕ → Descriptor
base security = unwrap_or (result_ok (described security)) default_descriptor

abbrev pub security_of : Service → List ℕ
security_of row = row.security

-- the bytes are none as long as no descriptor was set, and otherwise the written form of one
abbrev pub IsSecured : Service → Type 0
IsSecured row = IsWritten row.security

-- of the service that a caller's handle is of
abbrev pub held_security : Flat → ℕ → ℕ → Option (List ℕ)
held_security f caller handle = option_map security_of (held_service f caller handle)

-- of the service with the same name
abbrev pub named_security : Flat → List ℕ → Option (List ℕ)
named_security f name = option_map security_of (named f name)

-- ## What is asked

-- the parts that are asked for are none, or others than owner, group and list
abbrev pub are_no_parts : ℕ → Bool
are_no_parts parts = parts == 0 || nat_lt 7 parts

abbrev pub is_byte : ℕ → Bool
is_byte n = nat_lt n 256

-- the descriptor that bytes are
abbrev pub descriptor_in : List ℕ → Option Descriptor
descriptor_in bytes = if list_all is_byte bytes then result_ok (described bytes) else None

-- ## Query

-- the parts that are asked for of what a service has
abbrev pub security_in : ℕ → Option (List ℕ) → List ℕ
security_in parts None = []
security_in parts (Some security) = descriptor_bytes (base security) parts

abbrev pub security_by : Flat → ℕ → ℕ → ℕ → List ℕ
security_by f caller handle parts = security_in parts (held_security f caller handle)

-- how many bytes they are, as far as numbers go
abbrev pub security_size : Flat → ℕ → ℕ → ℕ → ℕ
security_size f caller handle parts = min (2 ^ 32 - 1) (length (security_by f caller handle parts))

abbrev pub query_security_refusals : Flat → ℕ → ℕ → ℕ → ℕ → Refusals
query_security_refusals f caller handle parts size =
    (is_none (opened f caller handle), ERROR_INVALID_HANDLE)
    ∷ (are_no_parts parts, ERROR_INVALID_PARAMETER)
    ∷ (lacks (opened f caller handle) READ_CONTROL, ERROR_ACCESS_DENIED)
    ∷ (nat_lt size (security_size f caller handle parts), ERROR_INSUFFICIENT_BUFFER)
    ∷ []

abbrev pub query_security_verdict : Flat → ℕ → ℕ → ℕ → ℕ → ℕ
query_security_verdict f caller handle parts size = first_refusal (query_security_refusals f caller handle parts size)

-- if the size is too small, the reply has the size needed
abbrev pub query_security_told : Flat → ℕ → ℕ → ℕ → ℕ → ℕ → Reply
query_security_told f caller handle parts size code =
    reply.Bytes size [] (if code == ERROR_INSUFFICIENT_BUFFER then security_size f caller handle parts else 0) code

abbrev pub query_security_done : Flat → ℕ → ℕ → ℕ → ℕ → CallResult
query_security_done f caller handle parts size =
    record { reply = reply.Bytes size (security_by f caller handle parts) 0 0; flat = f }

-- what the call is answered
abbrev pub query_security_reply : Flat → ℕ → ℕ → ℕ → ℕ → Reply
query_security_reply f caller handle parts size =
    let code = query_security_verdict f caller handle parts size in
    (answered code (query_security_told f caller handle parts size code) f (query_security_done f caller handle parts size)).reply

-- ## Set

-- owner and group need one right, the list another
abbrev pub rights_to_set : ℕ → ℕ
rights_to_set parts = bit_or (if bit_and parts 3 == 0 then 0 else WRITE_OWNER) (if bit_and parts 4 == 0 then 0 else WRITE_DAC)

-- the refusals for what the bytes are read as
abbrev pub set_security_refusals : Flat → ℕ → ℕ → ℕ → Option Descriptor → Refusals
set_security_refusals f caller handle parts given =
    (is_none (opened f caller handle), ERROR_INVALID_HANDLE)
    ∷ (are_no_parts parts, ERROR_INVALID_PARAMETER)
    ∷ (lacks (opened f caller handle) (rights_to_set parts), ERROR_ACCESS_DENIED)
    ∷ (is_marked (held_service f caller handle), ERROR_SERVICE_MARKED_FOR_DELETE)
    ∷ (is_none given, ERROR_INVALID_PARAMETER)
    ∷ []

abbrev pub set_security_verdict : Flat → ℕ → ℕ → ℕ → Option Descriptor → ℕ
set_security_verdict f caller handle parts given = first_refusal (set_security_refusals f caller handle parts given)

-- a descriptor with the parts that are asked for in place of its own
abbrev pub replaced : ℕ → Descriptor → Descriptor → Descriptor
replaced parts old given = record {
  owner = if has_bits parts OWNER_SECURITY_INFORMATION then given.owner else old.owner;
  group = if has_bits parts GROUP_SECURITY_INFORMATION then given.group else old.group;
  list = if has_bits parts DACL_SECURITY_INFORMATION then given.list else old.list;
}

-- all parts of the descriptor that a service gets in place of what it has
abbrev pub new_security : ℕ → Descriptor → List ℕ → List ℕ
new_security parts given security = descriptor_bytes (replaced parts (base security) given) 7

-- the same of a handle's service, if the bytes that are given were read
abbrev pub asked_security : Flat → ℕ → ℕ → ℕ → Option Descriptor → Option (List ℕ)
asked_security f caller handle parts given =
    option_and_then (λ (d : Descriptor). option_map (new_security parts d) (held_security f caller handle)) given

abbrev pub secured_if : ℕ → List ℕ → Service → Service
secured_if number security row = if row.number == number then record row { security = security } else row

-- the service with a number gets a descriptor
abbrev pub with_security : Flat → ℕ → List ℕ → Flat
with_security f number security = record f { services = map (secured_if number security) f.services }

-- a descriptor replaces that of the service that was found
abbrev pub secured_in : Option Service → List ℕ → List Service → List Service
secured_in service security = if_found (λ row. map (secured_if row.number security)) service

abbrev pub set_security_done : Flat → ℕ → ℕ → ℕ → Option Descriptor → CallResult
set_security_done f caller handle parts given = record {
  reply = reply.Code 0;
  flat = record f {
    services = if_found (secured_in (held_service f caller handle)) (asked_security f caller handle parts given) f.services;
  };
}

abbrev pub set_security_outcome : Flat → ℕ → ℕ → ℕ → List ℕ → CallResult
set_security_outcome f caller handle parts bytes =
    outcome (set_security_verdict f caller handle parts (descriptor_in bytes)) (request.SetSecurity handle parts bytes) f
    (set_security_done f caller handle parts (descriptor_in bytes))

-- ## What a descriptor allows

-- the rights that a service's descriptor allows a caller of those that it asks for
abbrev pub allowed_to : Flat → ℕ → ℕ → List ℕ → Option ℕ
allowed_to f caller access security = allowed_by (list_of security) (principal_of f caller) (map_generic false access)

-- the same of the service with a name
abbrev pub service_allowed : Flat → ℕ → List ℕ → ℕ → Option ℕ
service_allowed f caller name access = option_and_then (allowed_to f caller access) (named_security f name)
