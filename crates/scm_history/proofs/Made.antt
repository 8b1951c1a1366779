-- Who an entry names was made by an entry before it.
use Rattle.std.proofs.Common.{ℕ, ◌≡◌, ◌∙◌, ◌==◌, ◌||◌, ◌++◌, Bool, true, false, not, cond, IsTrue, List, [], ◌∷◌, Option, None, Some, find}
use Rattle.std.proofs.Common.{map, ap, sym, refl, subst, eqb-true}
use Rattle.std.specs.Prelude.{is_some, option_map}
use Rattle.std.proofs.lemmas.Option.{IfSome_then}
use Rattle.scm_model.specs.declared.flat.Caller.{Caller}
use Rattle.scm_model.specs.declared.flat.Flat.{Flat}
use Rattle.scm_model.specs.declared.flat.Limits.{Limits}
use Rattle.scm_model.specs.declared.flat.Phase.{Phase}
use Rattle.scm_model.specs.declared.flat.Phase.TheVariants as phases
use Rattle.scm_model.specs.declared.flat.Process.{Process}
use Rattle.scm_model.specs.declared.steps.Step.{Step}
use Rattle.scm_model.specs.declared.steps.Step.TheVariants.{Joined, Call, LaunchTaken, Launched, LaunchFailed, Report, Ended, ControlTaken}
use Rattle.scm_model.specs.declared.steps.Step.TheVariants.{Gone, Tick, Raised}
use Rattle.scm_model.specs.Rows.{is_caller, service_of}
use Rattle.scm_model.specs.Changes.{with_moment}
use Rattle.start_plan.specs.Entered.{is_shared_by, wanted_process}
use Rattle.start_plan.specs.Settle.{settled}
use Rattle.start_plan.proofs.Enterings.{all_units}
use Rattle.start_plan.proofs.Hosts.{entered_keeps}
use Rattle.start_plan.proofs.Keeps.{Keeps, keeps_all}
use Rattle.scm_rules.specs.Controls.{first_asked}
use Rattle.scm_rules.specs.Reports.{reporting}
use Rattle.scm_rules.specs.Launches.{currents, first_wanted, is_launched, is_running_phase, is_taken, is_taken_phase, launched_if}
use Rattle.scm_rules.specs.Launches.{process_of, taken_if, with_fallen, without_process}
use Rattle.scm_rules.specs.Opening.{IsOpening}
use Rattle.scm_rules.specs.Runs.{IsLegal, run_state}
use Rattle.scm_model.specs.Entries.{Entry}
use Rattle.scm_rules.specs.Steps.{at_moment, effect_of, may, step_of}
use Rattle.scm_rules.specs.Valid.{is_to_launch, is_wanted_phase}
use Rattle.scm_runs.proofs.Frames.{finished_keeps}
use Rattle.scm_runs.proofs.Handled.{has_caller}
use Rattle.scm_rules.specs.Named.{caller_named, has_made, has_taken, makes_caller, process_named, takes_process, is_it}
use Rattle.scm_history.specs.Made.{StandsBehind}
use Rattle.scm_history.specs.Names.{has_come_to}
use Rattle.scm_history.specs.Processes.{apart_from_controls}
use Rattle.scm_history.proofs.Begun.{answers_own}
use Rattle.scm_history.proofs.Callers.{caller_after}
use Rattle.scm_history.proofs.Effects.{callers_left, of_call, of_raise, released_apart, sent_apart}
use Rattle.scm_history.proofs.Finds.{find_push, none_filter}
use Rattle.scm_history.proofs.Names.{caller_there, process_there}
use Rattle.scm_history.proofs.Processes.{has, launches, left_not, others_changed, takes, told_apart}
use Rattle.std.proofs.lemmas.Bool.{and_parts}
use Rattle.scm_runs.proofs.Histories.{made_front, may_behind}
use Rattle.scm_model.proofs.Found.{found_keeps}
use Rattle.scm_runs.proofs.Failing.{all_failing_apart, failing_apart}
use Rattle.scm_rules.specs.Failures.{failed_by}
use Rattle.scm_runs.proofs.Unasked.{ticked_by}
use Rattle.scm_model.specs.declared.codes.TheConstants.{ERROR_PROCESS_ABORTED}
use Rattle.scm_runs.proofs.Sound.{Sound}
use Rattle.scm_runs.proofs.Calls.{keeps}
use Rattle.scm_runs.proofs.Along.{at_end}

-- ## Callers

not_same : (a b : ℕ) → (a == b) ≡ false → (b == a) ≡ false
not_same a b other = elim (b == a) as (λ c. (b == a) ≡ c → c ≡ false) [
  | true ↦ λ e. absurd (let t = eqb-true b a e in cc)
  | false ↦ λ e. refl
] refl

-- an effect that makes another caller, or none
not_made : (l : Limits) (f : Flat) (moment : ℕ) (step : Step) (number : ℕ) → makes_caller f number step ≡ false → is_caller f number ≡ false
    → is_caller (effect_of l (at_moment f moment step) step).flat number ≡ false
not_made l f moment (Joined principal) number other none =
    ap is_some (find_push (λ (row : Caller). row.number == number) f.callers (record { number = f.next.caller; principal = principal })
    (not_same number f.next.caller other)) ∙ none
not_made l f moment (Gone caller) number other none = none_filter (λ (row : Caller). row.number == number)
    (λ (row : Caller). not (row.number == caller)) f.callers none
not_made l f moment step number other none = ap (λ rows. has_caller rows number) (callers_left l f moment step refl).rows ∙ none

-- who is there in the end and wasn't in the beginning was made
made : (l : Limits) (f : Flat) (number : ℕ) (es : List Entry) → is_caller f number ≡ false → is_caller (run_state l f es) number ≡ true
    → has_made l f number es ≡ true
made l f number [] none there = absurd cc
made l f number (e ∷ es) none there =
    elim (makes_caller f number e.1) as (λ b. makes_caller f number e.1 ≡ b
    → (b || has_made l (step_of l f e.0 e.1).flat number es) ≡ true) [
      | true ↦ λ h. refl
      | false ↦ λ h. made l (step_of l f e.0 e.1).flat number es (caller_after l f e.0 e.1 number
          ∙ not_made l f e.0 e.1 number h none) there
    ] refl

-- ## Processes

-- listed, and no more to be launched
abbrev is_begun : Option Process → Bool
is_begun None = false
is_begun (Some row) = not (is_to_launch row)

begun_apart : (row : Option Process) → is_begun (option_map apart_from_controls row) ≡ is_begun row
begun_apart None = refl
begun_apart (Some row) = refl

phase_taken : (phase : Phase) → is_taken_phase phase ≡ true → not (is_wanted_phase phase) ≡ true
phase_taken phases.Wanted h = absurd cc
phase_taken phases.Taken h = refl
phase_taken phases.Launched h = absurd cc

phase_running : (phase : Phase) → is_running_phase phase ≡ true → not (is_wanted_phase phase) ≡ true
phase_running phases.Wanted h = absurd cc
phase_running phases.Taken h = absurd cc
phase_running phases.Launched h = refl

taken_begun : (row : Option Process) → is_taken row ≡ true → is_begun row ≡ true
taken_begun None h = absurd cc
taken_begun (Some row) h = phase_taken row.phase h

running_begun : (row : Option Process) → is_launched row ≡ true → is_begun row ≡ true
running_begun None h = absurd cc
running_begun (Some row) h = phase_running row.phase h

-- whom a step names is listed and no more to be launched
named_begun : (step : Step) (row : Option Process) → has_come_to step row ≡ true → is_begun row ≡ true
named_begun (Launched process pid) row h = taken_begun row h
named_begun (LaunchFailed process code) row h = taken_begun row h
named_begun step row h = running_begun row h

-- a launch comes of a process in hand alone
launched_not : (number process pid : ℕ) (rows : List Process) → is_taken (find (has process) rows) ≡ true
    → is_begun (find (has number) rows) ≡ false → is_begun (find (has number) (map (launched_if process pid) rows)) ≡ false
launched_not number process pid rows taken none =
    elim (number == process) as (λ b. (number == process) ≡ b → is_begun (find (has number) (map (launched_if process pid) rows)) ≡ false) [
      | true ↦ λ e. absurd (let there = taken_begun (find (has process) rows) taken in
          let same = ap (λ n. is_begun (find (has n) rows)) (eqb-true number process e) in cc)
      | false ↦ λ e. ap is_begun (others_changed number process (launched_if process pid) rows (launches process pid) e) ∙ none
    ] refl

abbrev IsNotBegun : ℕ → Flat → Type 0
IsNotBegun number f = is_begun (process_of f number) ≡ false

-- a process that is wanted is still to be launched
wanted_not : (number next service : ℕ) (shared : Bool) (rows : List Process) → is_begun (find (has number) rows) ≡ false
    → is_begun (find (has number) (rows ++ wanted_process next service shared ∷ [])) ≡ false
wanted_not number next service shared [] none =
    elim (next == number) as (λ b. is_begun (cond b (Some (wanted_process next service shared)) None) ≡ false)
    [ true ↦ refl | false ↦ refl ]
wanted_not number next service shared (row ∷ rows) none =
    elim (row.number == number) as (λ b. is_begun (cond b (Some row) (find (has number) rows)) ≡ false
    → is_begun (cond b (Some row) (find (has number) (rows ++ wanted_process next service shared ∷ []))) ≡ false)
    [ true ↦ λ h. h | false ↦ λ h. wanted_not number next service shared rows h ] none

-- an effect that takes another process in hand, or none
not_begun : (l : Limits) (f : Flat) (moment : ℕ) (step : Step) (number : ℕ) → IsTrue (may l f moment step)
    → takes_process f number step ≡ false → is_begun (process_of f number) ≡ false
    → is_begun (process_of (effect_of l (at_moment f moment step) step).flat number) ≡ false
not_begun l f moment (Call caller asked append) number ok other none = told_apart is_begun begun_apart number f.processes _
    (of_call l (with_moment f moment) caller asked append).processes ∙ none
not_begun l f moment LaunchTaken number ok other none =
    found_keeps (λ (rows : List Process). is_begun (find (has number) rows) ≡ false) (λ process. map (taken_if process))
    (first_wanted f.wanted) f.processes none
    (λ one is. ap is_begun (others_changed number one (taken_if one) f.processes (takes one) (ap (is_it number) (sym is) ∙ other)) ∙ none)
not_begun l f moment (Launched process pid) number ok other none = launched_not number process pid f.processes (and_parts _ _ ok).0 none
not_begun l f moment (LaunchFailed process code) number ok other none = left_not is_begun refl number process f.processes none
not_begun l f moment (Report process service status) number ok other none = failing_apart (IsNotBegun number)
    (failed_by status (reporting f process service)) _
    (told_apart is_begun begun_apart number f.processes _ (released_apart status (reporting f process service) f.processes) ∙ none)
not_begun l f moment (Ended process) number ok other none =
    all_failing_apart (λ (g : Flat). IsNotBegun number (without_process g process)) (currents process f.services)
    (with_fallen (with_moment f moment) process ERROR_PROCESS_ABORTED) (left_not is_begun refl number process f.processes none)
not_begun l f moment (ControlTaken process) number ok other none =
    told_apart is_begun begun_apart number f.processes _ (sent_apart (first_asked f process) process f.processes) ∙ none
not_begun l f moment Tick number ok other none =
    ticked_by (IsNotBegun number) l
    (record {
      spends = λ g row is q. q;
      starts = λ g row there can q. q;
      runs = λ g row there can q. wanted_not number g.next.process 0 false g.processes q;
      reboots = λ g q. q;
    }) (with_moment f moment) none
not_begun l f moment (Raised caller subtype) number ok other none = told_apart is_begun begun_apart number f.processes _
    (of_raise l (with_moment f moment) caller subtype).processes ∙ none
not_begun l f moment step number ok other none = none

stays_not : (l : Limits) (number : ℕ) → Keeps l (IsNotBegun number) (λ plan. Unit {0})
stays_not l number = record {
  enters = λ f plan service words entry none. entered_keeps (IsNotBegun number) f service words
      (λ new. wanted_not number f.next.process service (is_shared_by (service_of f service)) f.processes none) (λ process is. none);
  tries = λ f plan service entry q. tt;
  drops = λ plan service rest code q. tt;
  meets = λ plan services q. tt;
}

step_not : (l : Limits) (f : Flat) (moment : ℕ) (step : Step) (number : ℕ) → IsTrue (may l f moment step)
    → takes_process f number step ≡ false → is_begun (process_of f number) ≡ false
    → is_begun (process_of (step_of l f moment step).flat number) ≡ false
step_not l f moment step number ok other none =
    let done = effect_of l (at_moment f moment step) step in
    finished_keeps (IsNotBegun number) (λ g plans h. h) (settled l done.flat) done.answer
    (keeps_all l (IsNotBegun number) (λ plan. Unit {0}) (stays_not l number) done.flat done.flat.plans
    (not_begun l f moment step number ok other none) (all_units done.flat.plans)).flat

-- who is no more to be launched in the end and wasn't listed so in the beginning was taken in hand
taken : (l : Limits) (f : Flat) (number : ℕ) (es : List Entry) → IsLegal l f es → is_begun (process_of f number) ≡ false
    → is_begun (process_of (run_state l f es) number) ≡ true → has_taken l f number es ≡ true
taken l f number [] legal none there = absurd cc
taken l f number (e ∷ es) legal none there =
    elim (takes_process f number e.1) as (λ b. takes_process f number e.1 ≡ b
    → (b || has_taken l (step_of l f e.0 e.1).flat number es) ≡ true) [
      | true ↦ λ h. refl
      | false ↦ λ h. taken l (step_of l f e.0 e.1).flat number es legal.1 (step_not l f e.0 e.1 number legal.0 h none) there
    ] refl

-- ## Histories

-- nobody has joined, and no process is listed
pub record IsEmpty (f : Flat) : Type 0 where
  pub callers : f.callers ≡ []
  pub processes : f.processes ≡ []

pub opened_empty : (l : Limits) (f : Flat) → IsOpening l f → IsEmpty f
opened_empty l f o = subst IsEmpty (sym o.is) (record { callers = refl; processes = refl })

pub opened_planless : (l : Limits) (f : Flat) → IsOpening l f → f.plans ≡ []
opened_planless l f o = ap (λ (g : Flat). g.plans) o.is

pub stands_behind : (l : Limits) (f : Flat) (es : List Entry) → Sound f → IsEmpty f → f.plans ≡ [] → IsLegal l f es
    → (front : List Entry) (e : Entry) (rest : List Entry) → es ≡ front ++ e ∷ rest → StandsBehind l f front e
stands_behind l f es s empty none legal front e rest split =
    let whole = subst (IsLegal l f) split legal in
    let ok = may_behind l f front e rest whole in
    let before = made_front l f front (e ∷ rest) whole in
    record {
      caller = IfSome_then (caller_named e.1) (caller_there l (run_state l f front) e.0 e.1 ok)
          (λ number there. made l f number front (ap (λ rows. has_caller rows number) empty.callers) there);
      process = IfSome_then (process_named e.1) (process_there l (run_state l f front) e.0 e.1 ok)
          (λ number there. taken l f number front before (ap (λ rows. is_begun (find (has number) rows)) empty.processes)
          (named_begun e.1 (process_of (run_state l f front) number) there));
      start = answers_own l f front e.0 e.1 (at_end Sound l (keeps l) f front s before) none ok;
    }
