-- How far an entry leaves the process that it is of.
use Rattle.std.specs.Prelude.{ℕ, ◌≡◌, Option, None, Some, option_map}
use Rattle.scm_model.specs.declared.flat.Flat.{Flat}
use Rattle.scm_model.specs.declared.flat.Phase.{Phase}
use Rattle.scm_model.specs.declared.flat.Phase.TheVariants as phases
use Rattle.scm_model.specs.declared.flat.Process.{Process}
use Rattle.scm_model.specs.declared.steps.Answer.{Answer}
use Rattle.scm_model.specs.declared.steps.Step.{Step}
use Rattle.scm_model.specs.declared.steps.Step.TheVariants.{LaunchTaken, Launched, LaunchFailed, Report, Ended}
use Rattle.scm_model.specs.Entries.{Entry}
use Rattle.scm_rules.specs.Launches.{first_wanted, process_of}
use Rattle.scm_history.specs.Processes.{apart_from_controls}

-- how far a process has come, if it is listed
abbrev pub phase_of : Flat → ℕ → Option Phase
phase_of f number = option_map (λ (row : Process). row.phase) (process_of f number)

-- the system's number of it
abbrev pub pid_of_process : Flat → ℕ → Option ℕ
pid_of_process f number = option_map (λ (row : Process). row.pid) (process_of f number)

-- it was launched, and has this number of the system
pub record RunsAs (f : Flat) (number pid : ℕ) : Type 0 where
  pub phase : phase_of f number ≡ Some phases.Launched
  pub by : pid_of_process f number ≡ Some pid

-- it runs, and all of it is as it was, apart from its controls
pub record RunsOn (before after : Flat) (number : ℕ) : Type 0 where
  pub phase : phase_of after number ≡ Some phases.Launched
  pub same : option_map apart_from_controls (process_of after number) ≡ option_map apart_from_controls (process_of before number)

-- the launch of a process that was found is taken
abbrev pub IsInHand : Flat → Option ℕ → Type 0
IsInHand f None = ⊥
IsInHand f (Some number) = phase_of f number ≡ Some phases.Taken

-- a process has the phase Taken once its launch is taken, runs once it was launched and as long as it reports, and isn't listed once its
-- launch failed or it has ended
abbrev pub LeavesSo : Flat → Step → Flat → Type 0
LeavesSo before LaunchTaken after = IsInHand after (first_wanted before.wanted)
LeavesSo before (Launched process pid) after = RunsAs after process pid
LeavesSo before (Report process service status) after = RunsOn before after process
LeavesSo before (LaunchFailed process code) after = process_of after process ≡ None
LeavesSo before (Ended process) after = process_of after process ≡ None
LeavesSo before step after = Unit {0}

abbrev pub LawOfPhases : Flat → Entry → Answer → Flat → Type 0
LawOfPhases before e told after = LeavesSo before e.1 after
