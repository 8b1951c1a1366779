-- The numbers of a status, and the status of a service that never ran.
use Rattle.std.specs.Prelude.{ℕ, List, [], ◌∷◌}
use Rattle.scm_model.specs.declared.flat.Status.{Status}
use Rattle.scm_model.specs.declared.codes.TheConstants.{ERROR_SERVICE_NEVER_STARTED, SERVICE_STOPPED}

-- the numbers of a status, in the order of SERVICE_STATUS
abbrev pub status_numbers : Status → List ℕ
status_numbers s = s.kind ∷ s.state ∷ s.accepted ∷ s.win32 ∷ s.specific ∷ s.checkpoint ∷ s.hint ∷ []

-- never run yet
abbrev pub new_status : ℕ → Status
new_status kind = record {
  kind = kind;
  state = SERVICE_STOPPED;
  accepted = 0;
  win32 = ERROR_SERVICE_NEVER_STARTED;
  specific = 0;
  checkpoint = 0;
  hint = 0;
}
