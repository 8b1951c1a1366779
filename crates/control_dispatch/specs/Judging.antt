-- Whether a service gets a control, and with what code it is refused.
use Rattle.std.specs.Prelude.{ℕ, Bool, true, not, ◌&&◌, ◌||◌, ◌==◌, nat_le, nat_lt, List, [], ◌∷◌, Option, None, Some, find, is_none}
use Rattle.std.specs.Prelude.{option_map, bit_and, if◌then◌else◌}
use Rattle.scm_model.specs.Refused.{first_refusal}
use Rattle.scm_model.specs.declared.flat.Status.{Status}
use Rattle.scm_model.specs.declared.codes.TheConstants.{ERROR_ACCESS_DENIED, ERROR_DEPENDENT_SERVICES_RUNNING, ERROR_INVALID_HANDLE}
use Rattle.scm_model.specs.declared.codes.TheConstants.{ERROR_INVALID_PARAMETER, ERROR_INVALID_SERVICE_CONTROL}
use Rattle.scm_model.specs.declared.codes.TheConstants.{ERROR_SERVICE_CANNOT_ACCEPT_CTRL, ERROR_SERVICE_NOT_ACTIVE, FIRST_USER_CONTROL}
use Rattle.scm_model.specs.declared.codes.TheConstants.{LAST_USER_CONTROL, SERVICE_ACCEPT_NETBINDCHANGE, SERVICE_ACCEPT_PARAMCHANGE}
use Rattle.scm_model.specs.declared.codes.TheConstants.{SERVICE_ACCEPT_PAUSE_CONTINUE, SERVICE_ACCEPT_STOP, SERVICE_CONTROL_CONTINUE}
use Rattle.scm_model.specs.declared.codes.TheConstants.{SERVICE_CONTROL_INTERROGATE, SERVICE_CONTROL_NETBINDADD}
use Rattle.scm_model.specs.declared.codes.TheConstants.{SERVICE_CONTROL_NETBINDDISABLE, SERVICE_CONTROL_PARAMCHANGE, SERVICE_CONTROL_PAUSE}
use Rattle.scm_model.specs.declared.codes.TheConstants.{SERVICE_CONTROL_STOP, SERVICE_INTERROGATE, SERVICE_PAUSE_CONTINUE}
use Rattle.scm_model.specs.declared.codes.TheConstants.{SERVICE_START_PENDING, SERVICE_STOP, SERVICE_STOPPED, SERVICE_STOP_PENDING}
use Rattle.scm_model.specs.declared.codes.TheConstants.{SERVICE_USER_DEFINED_CONTROL}
use Rattle.control_dispatch.specs.declared.judging.Control.{Control}

abbrev pub control_rule : ℕ → ℕ → Control
control_rule right accept = record { right = right; accept = accept }

-- the controls that there are, from a code to a code: the right that sending one needs, and the bit by which a service accepts it, or 0
abbrev pub controls : List (ℕ × ℕ × Control)
controls =
    (SERVICE_CONTROL_STOP, SERVICE_CONTROL_STOP, control_rule SERVICE_STOP SERVICE_ACCEPT_STOP)
    ∷ (SERVICE_CONTROL_PAUSE, SERVICE_CONTROL_CONTINUE, control_rule SERVICE_PAUSE_CONTINUE SERVICE_ACCEPT_PAUSE_CONTINUE)
    ∷ (SERVICE_CONTROL_INTERROGATE, SERVICE_CONTROL_INTERROGATE, control_rule SERVICE_INTERROGATE 0)
    ∷ (SERVICE_CONTROL_PARAMCHANGE, SERVICE_CONTROL_PARAMCHANGE, control_rule SERVICE_PAUSE_CONTINUE SERVICE_ACCEPT_PARAMCHANGE)
    ∷ (SERVICE_CONTROL_NETBINDADD, SERVICE_CONTROL_NETBINDDISABLE, control_rule SERVICE_PAUSE_CONTINUE SERVICE_ACCEPT_NETBINDCHANGE)
    ∷ (FIRST_USER_CONTROL, LAST_USER_CONTROL, control_rule SERVICE_USER_DEFINED_CONTROL 0)
    ∷ []

abbrev pub is_within : ℕ → ℕ × ℕ × Control → Bool
is_within code row = nat_le row.0 code && nat_le code row.1

abbrev pub control_of : ℕ → Option Control
control_of code = option_map (λ (row : ℕ × ℕ × Control). row.2) (find (is_within code) controls)

-- whether one of the bits is missing
abbrev pub lacks_bits : ℕ → ℕ → Bool
lacks_bits mask bits = not (bit_and mask bits == bits)

abbrev pub lacks_right : Option ℕ → Option Control → Bool
lacks_right None control = true
lacks_right (Some granted) None = true
lacks_right (Some granted) (Some control) = lacks_bits granted control.right

abbrev pub does_not_accept : Status → Option Control → Bool
does_not_accept status None = true
does_not_accept status (Some control) = lacks_bits status.accepted control.accept

-- the code of a control: of the rights granted by the handle, which is none where it is no handle of a service, the services that
-- need this one and aren't stopped, the controls that wait, and how many may
abbrev pub judge : Option ℕ → ℕ → Status → ℕ → ℕ → ℕ → ℕ
judge granted code status active waiting limit = first_refusal (
    (is_none granted, ERROR_INVALID_HANDLE)
    ∷ (is_none (control_of code), ERROR_INVALID_PARAMETER)
    ∷ (lacks_right granted (control_of code), ERROR_ACCESS_DENIED)
    ∷ (status.state == SERVICE_STOPPED, ERROR_SERVICE_NOT_ACTIVE)
    ∷ (status.state == SERVICE_START_PENDING || status.state == SERVICE_STOP_PENDING, ERROR_SERVICE_CANNOT_ACCEPT_CTRL)
    ∷ (does_not_accept status (control_of code), ERROR_INVALID_SERVICE_CONTROL)
    ∷ (code == SERVICE_CONTROL_STOP && nat_lt 0 active, ERROR_DEPENDENT_SERVICES_RUNNING)
    ∷ (nat_le limit waiting, ERROR_SERVICE_CANNOT_ACCEPT_CTRL)
    ∷ [])
