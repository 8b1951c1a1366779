-- RGetServiceDisplayNameW, RGetServiceKeyNameW: the other name of a service.
use Rattle.std.specs.Prelude.{◌^◌, ◌-◌, ℕ, Bool, ◌==◌, nat_le, length, min, List, [], ◌∷◌, Option, None, Some, is_none, if◌then◌else◌}
use Rattle.scm_model.specs.declared.flat.Flat.{Flat}
use Rattle.scm_model.specs.declared.flat.Service.{Service}
use Rattle.scm_model.specs.declared.calls.Reply.{Reply}
use Rattle.scm_model.specs.declared.calls.Reply.TheVariants as reply
use Rattle.scm_model.specs.Rows.{manager_mask, named, displayed}
use Rattle.scm_model.specs.Refused.{answered, first_refusal, Refusals}
use Rattle.scm_model.specs.Outcomes.{CallResult}
use Rattle.scm_model.specs.declared.codes.TheConstants.{ERROR_INSUFFICIENT_BUFFER, ERROR_INVALID_HANDLE, ERROR_SERVICE_DOES_NOT_EXIST}

-- the display name of the service with a name
abbrev pub display_in : Option Service → Option (List ℕ)
display_in None = None
display_in (Some row) = Some row.config.display

abbrev pub display_by_name : Flat → List ℕ → Option (List ℕ)
display_by_name f name = display_in (named f name)

-- the name of the service with a display name
abbrev pub name_in : Option Service → Option (List ℕ)
name_in None = None
name_in (Some row) = Some row.config.name

abbrev pub name_by_display : Flat → List ℕ → Option (List ℕ)
name_by_display f display = name_in (displayed f display)

-- how many units a name has, as far as numbers go
abbrev pub units_of : Option (List ℕ) → ℕ
units_of None = 0
units_of (Some name) = min (2 ^ 32 - 1) (length name)

-- the other name doesn't fit with its zero
abbrev pub is_short : ℕ → Option (List ℕ) → Bool
is_short size other = nat_le size (units_of other)

-- what both are refused with, in this order
abbrev pub other_name_refusals : Flat → ℕ → ℕ → ℕ → Option (List ℕ) → Refusals
other_name_refusals f caller handle size other =
    (is_none (manager_mask f caller handle), ERROR_INVALID_HANDLE)
    ∷ (is_none other, ERROR_SERVICE_DOES_NOT_EXIST)
    ∷ (is_short size other, ERROR_INSUFFICIENT_BUFFER)
    ∷ []

abbrev pub other_name_verdict : Flat → ℕ → ℕ → ℕ → Option (List ℕ) → ℕ
other_name_verdict f caller handle size other = first_refusal (other_name_refusals f caller handle size other)

-- if the size is too small, the reply has the length of the other name
abbrev pub other_name_told : Option (List ℕ) → ℕ → Reply
other_name_told other code = reply.Name [] (if code == ERROR_INSUFFICIENT_BUFFER then units_of other else 0) code

-- the other name that is there
abbrev pub name_or_empty : Option (List ℕ) → List ℕ
name_or_empty None = []
name_or_empty (Some name) = name

abbrev pub other_name_done : Flat → Option (List ℕ) → CallResult
other_name_done f other = record { reply = reply.Name (name_or_empty other) (units_of other) 0; flat = f }

-- what both calls are answered
abbrev pub other_name_reply : Flat → ℕ → ℕ → ℕ → Option (List ℕ) → Reply
other_name_reply f caller handle size other =
    (answered (other_name_verdict f caller handle size other) (other_name_told other (other_name_verdict f caller handle size other)) f
    (other_name_done f other)).reply
