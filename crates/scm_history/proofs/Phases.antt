-- How far an entry leaves the process that it is of.
use Rattle.std.proofs.Common.{ℕ, ◌≡◌, ◌∙◌, ◌==◌, true, List, Option, None, Some, find, ap, sym, refl, subst}
use Rattle.std.specs.Prelude.{IsTrue, is_some, option_map}
use Rattle.std.proofs.lemmas.Bool.{and_parts}
use Rattle.scm_model.specs.declared.flat.Flat.{Flat}
use Rattle.scm_model.specs.declared.flat.Limits.{Limits}
use Rattle.scm_model.specs.declared.flat.Phase.{Phase}
use Rattle.scm_model.specs.declared.flat.Phase.TheVariants as phases
use Rattle.scm_model.specs.declared.flat.Process.{Process}
use Rattle.scm_model.specs.declared.flat.Status.{Status}
use Rattle.scm_model.specs.declared.steps.Step.{Step}
use Rattle.scm_model.specs.declared.steps.Step.TheVariants.{LaunchTaken, Launched, LaunchFailed, Report, Ended}
use Rattle.scm_rules.specs.Reports.{reporting}
use Rattle.scm_rules.specs.Launches.{currents, is_launched, is_running_phase, is_taken, is_taken_phase, launched_if, process_of}
use Rattle.scm_rules.specs.Launches.{with_fallen, without_process}
use Rattle.scm_rules.specs.Steps.{may, step_of}
use Rattle.scm_runs.proofs.Along.{Gives}
use Rattle.scm_runs.proofs.Lists.{found_passes}
use Rattle.scm_runs.proofs.Sound.{Sound}
use Rattle.scm_runs.proofs.Wanted.{taken_is_listed, taken_listed}
use Rattle.scm_history.specs.Phases.{LawOfPhases, LeavesSo, RunsAs, RunsOn, IsInHand}
use Rattle.scm_history.proofs.Finds.{found_map, is_some-map}
use Rattle.scm_history.specs.Processes.{apart_from_controls}
use Rattle.scm_history.proofs.Effects.{released_apart}
use Rattle.scm_history.proofs.Processes.{after_effect, found_apart, has, launches, listed_below, none_left}
use Rattle.scm_runs.proofs.Processes.{first_of}
use Rattle.scm_runs.proofs.Failing.{all_failing_apart, failing_apart}
use Rattle.scm_rules.specs.Failures.{failed_by}
use Rattle.scm_model.specs.declared.codes.TheConstants.{ERROR_PROCESS_ABORTED}
use Rattle.scm_model.specs.Changes.{with_moment}

-- ## Phases

taken_phase : (phase : Phase) → is_taken_phase phase ≡ true → phase ≡ phases.Taken
taken_phase phases.Wanted h = absurd cc
taken_phase phases.Taken h = refl
taken_phase phases.Launched h = absurd cc

in_hand : (row : Option Process) → is_taken row ≡ true → option_map (λ (row : Process). row.phase) row ≡ Some phases.Taken
in_hand None h = absurd cc
in_hand (Some row) h = ap (λ (phase : Phase). Some phase) (taken_phase row.phase h)

running_phase : (phase : Phase) → is_running_phase phase ≡ true → phase ≡ phases.Launched
running_phase phases.Wanted h = absurd cc
running_phase phases.Taken h = absurd cc
running_phase phases.Launched h = refl

runs : (row : Option Process) → is_launched row ≡ true → option_map (λ (row : Process). row.phase) row ≡ Some phases.Launched
runs None h = absurd cc
runs (Some row) h = ap (λ (phase : Phase). Some phase) (running_phase row.phase h)

-- who runs is listed
pub runs_listed : (row : Option Process) → is_launched row ≡ true → is_some row ≡ true
runs_listed row h = sym (is_some-map (λ (row : Process). row.phase) row) ∙ ap is_some (runs row h)

-- ## A launch

launched_phase : (process pid : ℕ) (rows : List Process) (found : Option Process) → find (has process) rows ≡ found → is_taken found ≡ true
    → option_map (λ (row : Process). row.phase) (option_map (launched_if process pid) found) ≡ Some phases.Launched
launched_phase process pid rows None e h = absurd cc
launched_phase process pid rows (Some row) e h = rw (found_passes (has process) row rows e) refl

launched_pid : (process pid : ℕ) (rows : List Process) (found : Option Process) → find (has process) rows ≡ found → is_taken found ≡ true
    → option_map (λ (row : Process). row.pid) (option_map (launched_if process pid) found) ≡ Some pid
launched_pid process pid rows None e h = absurd cc
launched_pid process pid rows (Some row) e h = rw (found_passes (has process) row rows e) refl

of_launched : (l : Limits) (f : Flat) (moment process pid : ℕ) → Sound f → is_taken (process_of f process) ≡ true
    → RunsAs (step_of l f moment (Launched process pid)).flat process pid
of_launched l f moment process pid s taken =
    let low = listed_below f process s (taken_listed (process_of f process) taken) in
    let same : process_of (step_of l f moment (Launched process pid)).flat process ≡ option_map (launched_if process pid)
    (process_of f process) =
    after_effect l f moment (Launched process pid) process low
    ∙ found_map (has process) (launched_if process pid) (λ row. ap (λ n. n == process) ((launches process pid).number_same row)) f.processes
    in
    record {
      phase = ap (option_map (λ (row : Process). row.phase)) same ∙ launched_phase process pid f.processes
          (process_of f process) refl taken;
      by = ap (option_map (λ (row : Process). row.pid)) same ∙ launched_pid process pid f.processes (process_of f process) refl taken;
    }

-- ## Steps

phase_apart : (row : Option Process) → option_map (λ (row : Process). row.phase) (option_map apart_from_controls row) ≡ option_map
    (λ (row : Process). row.phase) row
phase_apart None = refl
phase_apart (Some row) = refl

of_report : (l : Limits) (f : Flat) (moment process service : ℕ) (report : Status) → Sound f → is_launched (process_of f process) ≡ true
    → RunsOn f (step_of l f moment (Report process service report)).flat process
of_report l f moment process service report s running =
    let low = listed_below f process s (runs_listed (process_of f process) running) in
    let after = (step_of l f moment (Report process service report)).flat in
    let same : option_map apart_from_controls (process_of after process) ≡ option_map apart_from_controls (process_of f process) =
    ap (option_map apart_from_controls) (after_effect l f moment (Report process service report) process low)
    ∙ failing_apart (λ (g : Flat). option_map apart_from_controls (process_of g process) ≡ option_map apart_from_controls
    (process_of f process)) (failed_by report (reporting f process service)) _
    (found_apart process f.processes _ (released_apart report (reporting f process service) f.processes)) in
    record {
      phase = sym (phase_apart (process_of after process)) ∙ ap (option_map (λ (row : Process). row.phase)) same
          ∙ phase_apart (process_of f process) ∙ runs (process_of f process) running;
      same = same;
    }

of_step : (l : Limits) (f : Flat) (moment : ℕ) (step : Step) → Sound f → IsTrue (may l f moment step)
    → LeavesSo f step (step_of l f moment step).flat
of_step l f moment LaunchTaken s ok =
    let first = first_of f.wanted (and_parts _ _ ok).0 in
    subst (IsInHand (step_of l f moment LaunchTaken).flat) (sym first.is) (in_hand _ (taken_is_listed l f moment first.number s first.is))
of_step l f moment (Launched process pid) s ok = of_launched l f moment process pid s (and_parts _ _ ok).0
of_step l f moment (Report process service status) s ok = of_report l f moment process service status s
    (and_parts _ _ ok).0
of_step l f moment (LaunchFailed process code) s ok =
    after_effect l f moment (LaunchFailed process code) process (listed_below f process s
    (taken_listed (process_of f process) (and_parts _ _ (and_parts _ _ ok).0).0)) ∙ none_left process f.processes
of_step l f moment (Ended process) s ok =
    after_effect l f moment (Ended process) process (listed_below f process s (runs_listed (process_of f process) (and_parts _ _ ok).0))
    ∙ all_failing_apart (λ (g : Flat). process_of (without_process g process) process ≡ None) (currents process f.services)
    (with_fallen (with_moment f moment) process ERROR_PROCESS_ABORTED) (none_left process f.processes)
of_step l f moment step s ok = tt

pub gives : (l : Limits) → Gives Sound LawOfPhases l
gives l f e s ok = of_step l f e.0 e.1 s ok
