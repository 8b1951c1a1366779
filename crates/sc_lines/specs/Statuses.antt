-- Statuses, a line for each number.
use Rattle.std.specs.Prelude.{ℕ, ◌+◌, List, [], ◌∷◌, ◌++◌, codes, ◌==◌, if◌then◌else◌}
use Rattle.scm_model.specs.declared.codes.TheConstants.{SERVICE_STOPPED, SERVICE_START_PENDING, SERVICE_STOP_PENDING, SERVICE_RUNNING}
use Rattle.scm_model.specs.declared.codes.TheConstants.{SERVICE_CONTINUE_PENDING, SERVICE_PAUSE_PENDING, SERVICE_PAUSED}
use Rattle.scm_model.specs.declared.flat.Status.{Status}
use Rattle.sc_lines.specs.Lines.{Field, Named, Number, Text, lines}
use Rattle.sc_lines.specs.Reading.{u32_at}

abbrev pub state_name : ℕ → List ℕ
state_name state =
    if state == SERVICE_STOPPED then codes "STOPPED"
    else if state == SERVICE_START_PENDING then codes "START_PENDING"
    else if state == SERVICE_STOP_PENDING then codes "STOP_PENDING"
    else if state == SERVICE_RUNNING then codes "RUNNING"
    else if state == SERVICE_CONTINUE_PENDING then codes "CONTINUE_PENDING"
    else if state == SERVICE_PAUSE_PENDING then codes "PAUSE_PENDING"
    else if state == SERVICE_PAUSED then codes "PAUSED"
    else codes "UNKNOWN"

abbrev pub status_fields : Status → List Field
status_fields s =
    Number (codes "TYPE: ") s.kind ∷ Named (codes "STATE: ") s.state (state_name s.state) ∷ Number (codes "ACCEPTED: ") s.accepted
    ∷ Number (codes "WIN32_EXIT_CODE: ") s.win32 ∷ Number (codes "SERVICE_EXIT_CODE: ") s.specific
    ∷ Number (codes "CHECKPOINT: ") s.checkpoint ∷ Number (codes "WAIT_HINT: ") s.hint ∷ []

-- a status under a service's name
abbrev pub status_text : List ℕ → Status → List ℕ
status_text name s = lines (Text (codes "SERVICE_NAME: ") name ∷ []) ++ lines (status_fields s)

-- a status that begins at a place
abbrev pub status_at : List ℕ → ℕ → Status
status_at bytes at = record {
  kind = u32_at bytes at;
  state = u32_at bytes (at + 4);
  accepted = u32_at bytes (at + 8);
  win32 = u32_at bytes (at + 12);
  specific = u32_at bytes (at + 16);
  checkpoint = u32_at bytes (at + 20);
  hint = u32_at bytes (at + 24);
}

-- a status and the process, in the nine numbers of SERVICE_STATUS_PROCESS
abbrev pub process_text : List ℕ → List ℕ → List ℕ
process_text name bytes =
    status_text name (status_at bytes 0) ++ lines (Number (codes "PID: ") (u32_at bytes 28) ∷ Number (codes "FLAGS: ")
    (u32_at bytes 32) ∷ [])
