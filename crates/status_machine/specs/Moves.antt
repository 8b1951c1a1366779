-- How the status of a service moves by what its process reports.
use Rattle.std.specs.Prelude.{ℕ, Bool, not, ◌&&◌, ◌||◌, ◌==◌, nat_le, List, [], ◌∷◌, Result, Ok, Err, bit_and, if◌then◌else◌}
use Rattle.std.specs.List.{list_any}
use Rattle.scm_model.specs.declared.flat.Status.{Status}
use Rattle.scm_model.specs.declared.codes.TheConstants.{ERROR_INVALID_DATA, SERVICE_ACCEPT_ANY, SERVICE_CONTINUE_PENDING, SERVICE_PAUSED}
use Rattle.scm_model.specs.declared.codes.TheConstants.{SERVICE_PAUSE_PENDING, SERVICE_RUNNING, SERVICE_START_PENDING, SERVICE_STOPPED}
use Rattle.scm_model.specs.declared.codes.TheConstants.{SERVICE_STOP_PENDING}

-- from each state, the states that may be reported; from SERVICE_STOPPED none
abbrev pub moves : List (ℕ × List ℕ)
moves =
    (SERVICE_START_PENDING, SERVICE_START_PENDING ∷ SERVICE_RUNNING ∷ SERVICE_STOP_PENDING ∷ SERVICE_STOPPED ∷ [])
    ∷ (SERVICE_RUNNING, SERVICE_RUNNING ∷ SERVICE_PAUSE_PENDING ∷ SERVICE_PAUSED ∷ SERVICE_STOP_PENDING ∷ SERVICE_STOPPED ∷ [])
    ∷ (SERVICE_PAUSE_PENDING, SERVICE_PAUSE_PENDING ∷ SERVICE_PAUSED ∷ SERVICE_RUNNING ∷ SERVICE_STOP_PENDING ∷ SERVICE_STOPPED ∷ [])
    ∷ (SERVICE_PAUSED, SERVICE_PAUSED ∷ SERVICE_CONTINUE_PENDING ∷ SERVICE_RUNNING ∷ SERVICE_STOP_PENDING ∷ SERVICE_STOPPED ∷ [])
    ∷ (SERVICE_CONTINUE_PENDING, SERVICE_CONTINUE_PENDING ∷ SERVICE_RUNNING ∷ SERVICE_PAUSED ∷ SERVICE_STOP_PENDING ∷ SERVICE_STOPPED ∷ [])
    ∷ (SERVICE_STOP_PENDING, SERVICE_STOP_PENDING ∷ SERVICE_STOPPED ∷ [])
    ∷ []

abbrev pub is_among : ℕ → List ℕ → Bool
is_among state states = list_any (λ other. state == other) states

abbrev pub is_move : ℕ → ℕ → Bool
is_move from to = list_any (λ (row : ℕ × List ℕ). from == row.0 && is_among to row.1) moves

-- a report tells the service's type, a state, and controls that there are
abbrev pub is_well_formed : Status → Status → Bool
is_well_formed now report =
    report.kind == now.kind && nat_le SERVICE_STOPPED report.state && nat_le report.state SERVICE_PAUSED
    && bit_and report.accepted SERVICE_ACCEPT_ANY == report.accepted

abbrev pub takes : Status → Status → Bool
takes now report = is_well_formed now report && is_move now.state report.state

-- what a report makes of the status
abbrev pub take_report : Status → Status → Result Status ℕ
take_report now report = if takes now report then Ok report else Err ERROR_INVALID_DATA

-- the process ended: nothing is left but the type and the exit code
abbrev pub take_end : Status → ℕ → Status
take_end now code = record { kind = now.kind; state = SERVICE_STOPPED; accepted = 0; win32 = code; specific = 0; checkpoint = 0; hint = 0 }
