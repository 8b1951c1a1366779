-- What an entry makes was not made before.
use Rattle.std.proofs.Common.{ℕ, ◌≡◌, ◌∙◌, ◌<◌, ◌≤◌, ◌==◌, ◌&&◌, ◌||◌, ◌++◌, Bool, true, false, cond, IsTrue, List, [], ◌∷◌, Option, None}
use Rattle.std.proofs.Common.{Some, find, ap, refl, subst, arith, map}
use Rattle.std.specs.Prelude.{All, IfSome, is_some, option_map}
use Rattle.std.proofs.lemmas.List.Elements.{All-head, All-tail}
use Rattle.std.proofs.lemmas.Option.{IfSome_then}
use Rattle.scm_model.specs.declared.flat.Flat.{Flat}
use Rattle.scm_model.specs.declared.flat.Limits.{Limits}
use Rattle.scm_model.specs.declared.flat.Phase.{Phase}
use Rattle.scm_model.specs.declared.flat.Phase.TheVariants as phases
use Rattle.scm_model.specs.declared.flat.Process.{Process}
use Rattle.scm_model.specs.declared.steps.Step.{Step}
use Rattle.scm_model.specs.declared.steps.Step.TheVariants.{Joined, Call, LaunchTaken, Launched, LaunchFailed, Report, Ended, ControlTaken}
use Rattle.scm_model.specs.declared.steps.Step.TheVariants.{Tick, Raised}
use Rattle.scm_model.specs.Changes.{with_moment}
use Rattle.scm_rules.specs.Controls.{first_asked}
use Rattle.scm_rules.specs.Reports.{reporting}
use Rattle.scm_rules.specs.Launches.{currents, first_wanted, is_taken, is_taken_phase, launched_if, process_of, taken_if, with_fallen}
use Rattle.scm_rules.specs.Launches.{without_process}
use Rattle.scm_rules.specs.Runs.{IsLegal, run_state}
use Rattle.scm_model.specs.Entries.{Entry}
use Rattle.scm_rules.specs.Steps.{at_moment, effect_of, may, step_of}
use Rattle.scm_rules.specs.Valid.{is_to_launch, is_wanted_phase}
use Rattle.scm_runs.proofs.Along.{at_end}
use Rattle.scm_runs.proofs.Calls.{keeps}
use Rattle.scm_runs.proofs.Lists.{found_owns, is_some-find}
use Rattle.scm_runs.proofs.Processes.{first_there, number_of, first_is_to_be}
use Rattle.scm_runs.proofs.Sound.{Sound}
use Rattle.scm_runs.proofs.Wanted.{taken_is_listed}
use Rattle.scm_history.specs.Anew.{MakesAnew}
use Rattle.scm_rules.specs.Named.{caller_made, has_begun, has_made, has_taken, is_it, makes_caller, names_caller, plan_made, process_taken}
use Rattle.scm_rules.specs.Named.{takes_process}
use Rattle.scm_history.specs.Processes.{apart_from_controls}
use Rattle.scm_history.proofs.Callers.{rising}
use Rattle.scm_history.proofs.Effects.{of_call, of_raise, released_apart, sent_apart}
use Rattle.scm_history.proofs.Finds.{found_map}
use Rattle.scm_history.proofs.Numbers.{begun, joins_after, plan_rises}
use Rattle.scm_history.proofs.Own.{given_it}
use Rattle.scm_history.proofs.Processes.{after_effect, has, launches, left_not, listed_below, process_rises, takes, ticked_still}
use Rattle.scm_history.proofs.Processes.{told_apart}
use Rattle.std.proofs.lemmas.Bool.{and_parts}
use Rattle.scm_runs.proofs.Histories.{made_front, may_behind}
use Rattle.scm_rules.specs.Histories.{state}
use Rattle.scm_model.proofs.Found.{found_keeps}
use Rattle.scm_runs.proofs.Founds.{if_some, it_is}
use Rattle.scm_runs.proofs.Failing.{all_failing_apart, failing_apart}
use Rattle.scm_rules.specs.Failures.{failed_by}
use Rattle.scm_model.specs.declared.codes.TheConstants.{ERROR_PROCESS_ABORTED}

-- what would make it smaller than it is isn't so
not_yet : (b : Bool) (number next : ℕ) → (b ≡ true → number < next) → next ≤ number → b ≡ false
not_yet true number next below up = absurd (let low = below refl in omega (arith, low, up))
not_yet false number next below up = refl

-- ## Callers

callers_rise : (l : Limits) (f : Flat) (es : List Entry) → f.next.caller ≤ (run_state l f es).next.caller
callers_rise l f [] = omega arith
callers_rise l f (e ∷ es) = (let first = rising l f e.0 e.1 in let rest = callers_rise l (step_of l f e.0 e.1).flat es in
    omega (arith, first, rest))

made_below : (l : Limits) (f : Flat) (number : ℕ) (es : List Entry) → has_made l f number es ≡ true
    → number < (run_state l f es).next.caller
made_below l f number [] made = absurd cc
made_below l f number (e ∷ es) made =
    let after = (step_of l f e.0 e.1).flat in
    elim (makes_caller f number e.1) as (λ b. makes_caller f number e.1 ≡ b → (b || has_made l after number es) ≡ true
    → number < (run_state l after es).next.caller) [
      | true ↦ λ h g. (let low = given_it f.next.caller after.next.caller number (caller_made f e.1) (joins_after l f e.0 e.1) h in
          let up = callers_rise l after es in omega (arith, low, up))
      | false ↦ λ h g. made_below l after number es g
    ] refl made

caller_anew : (l : Limits) (f : Flat) (front : List Entry) (step : Step)
    → IfSome (caller_made (run_state l f front) step) (λ number. has_made l f number front ≡ false)
caller_anew l f front (Joined principal) =
    (let next = (run_state l f front).next.caller in not_yet (has_made l f next front) next next (made_below l f next front) (omega arith))
caller_anew l f front step = tt

-- ## Plans

plans_rise : (l : Limits) (f : Flat) (es : List Entry) → f.next.plan ≤ (run_state l f es).next.plan
plans_rise l f [] = omega arith
plans_rise l f (e ∷ es) = (let first = plan_rises l f e.0 e.1 in let rest = plans_rise l (step_of l f e.0 e.1).flat es in
    omega (arith, first, rest))

began_below : (l : Limits) (f : Flat) (caller number : ℕ) (es : List Entry) → has_begun l f caller number es ≡ true
    → number < (run_state l f es).next.plan
began_below l f caller number [] began = absurd cc
began_below l f caller number (e ∷ es) began =
    let after = (step_of l f e.0 e.1).flat in
    let told = plan_made (step_of l f e.0 e.1).answer in
    elim (names_caller caller e.1 && is_it number told) as (λ b. (names_caller caller e.1 && is_it number told) ≡ b
    → (b || has_begun l after caller number es) ≡ true → number < (run_state l after es).next.plan) [
      | true ↦ λ h g. (let low = given_it f.next.plan after.next.plan number told (begun l f e.0 e.1)
          (and_parts (names_caller caller e.1) (is_it number told) h).1 in let up = plans_rise l after es in omega (arith, low, up))
      | false ↦ λ h g. began_below l after caller number es g
    ] refl began

-- ## Processes

abbrev is_wanted_in : Option Process → Bool
is_wanted_in None = false
is_wanted_in (Some row) = is_to_launch row

-- a process that is listed no more, or isn't to be launched any more
record IsPast (number : ℕ) (f : Flat) : Type 0 where
  low : number < f.next.process
  past : is_wanted_in (process_of f number) ≡ false

past_taken : (one : ℕ) (row : Option Process) → is_wanted_in row ≡ false → is_wanted_in (option_map (taken_if one) row) ≡ false
past_taken one None past = refl
past_taken one (Some row) past = elim (row.number == one) as (λ b. is_to_launch (cond b (record row { phase = phases.Taken }) row) ≡ false)
    [ true ↦ refl | false ↦ past ]

past_launched : (one pid : ℕ) (row : Option Process) → is_wanted_in row ≡ false
    → is_wanted_in (option_map (launched_if one pid) row) ≡ false
past_launched one pid None past = refl
past_launched one pid (Some row) past = elim (row.number == one) as (λ b. is_to_launch
    (cond b (record row { phase = phases.Launched; pid = pid }) row) ≡ false) [ true ↦ refl | false ↦ past ]

wanted_apart : (row : Option Process) → is_wanted_in (option_map apart_from_controls row) ≡ is_wanted_in row
wanted_apart None = refl
wanted_apart (Some row) = refl

past_effect : (l : Limits) (f : Flat) (moment : ℕ) (step : Step) (number : ℕ) → number < f.next.process
    → is_wanted_in (process_of f number) ≡ false → is_wanted_in (process_of (effect_of l (at_moment f moment step) step).flat number) ≡
    false
past_effect l f moment (Call caller asked append) number low past = told_apart is_wanted_in wanted_apart number f.processes _
    (of_call l (with_moment f moment) caller asked append).processes ∙ past
past_effect l f moment LaunchTaken number low past =
    found_keeps (λ (rows : List Process). is_wanted_in (find (has number) rows) ≡ false) (λ process. map (taken_if process))
    (first_wanted f.wanted) f.processes past
    (λ one is. ap is_wanted_in (found_map (has number) (taken_if one) (λ row. ap (λ n. n == number) ((takes one).number_same row))
    f.processes) ∙ past_taken one (find (has number) f.processes) past)
past_effect l f moment (Launched process pid) number low past =
    ap is_wanted_in (found_map (has number) (launched_if process pid) (λ row. ap (λ n. n == number)
    ((launches process pid).number_same row)) f.processes)
    ∙ past_launched process pid (find (has number) f.processes) past
past_effect l f moment (LaunchFailed process code) number low past = left_not is_wanted_in refl number process f.processes past
past_effect l f moment (Report process service status) number low past =
    failing_apart (λ (g : Flat). is_wanted_in (process_of g number) ≡ false)
    (failed_by status (reporting f process service)) _
    (told_apart is_wanted_in wanted_apart number f.processes _ (released_apart status (reporting f process service) f.processes) ∙ past)
past_effect l f moment (Ended process) number low past =
    all_failing_apart (λ (g : Flat). is_wanted_in (process_of (without_process g process) number) ≡ false) (currents process f.services)
    (with_fallen (with_moment f moment) process ERROR_PROCESS_ABORTED)
    (left_not is_wanted_in refl number process f.processes past)
past_effect l f moment (ControlTaken process) number low past =
    told_apart is_wanted_in wanted_apart number f.processes _ (sent_apart (first_asked f process) process f.processes)
    ∙ past
past_effect l f moment Tick number low past = ap is_wanted_in (ticked_still l (with_moment f moment) number low).same ∙ past
past_effect l f moment (Raised caller subtype) number low past = told_apart is_wanted_in wanted_apart number f.processes _
    (of_raise l (with_moment f moment) caller subtype).processes ∙ past
past_effect l f moment step number low past = past

past_step : (l : Limits) (f : Flat) (moment : ℕ) (step : Step) (number : ℕ) → IsPast number f → IsPast number (step_of l f moment step).flat
past_step l f moment step number is = record {
  low = (let low = is.low in let up = process_rises l f moment step in omega (arith, low, up));
  past = ap is_wanted_in (after_effect l f moment step number is.low) ∙ past_effect l f moment step number is.low is.past;
}

past_along : (l : Limits) (f : Flat) (number : ℕ) (es : List Entry) → IsPast number f → IsPast number (run_state l f es)
past_along l f number [] is = is
past_along l f number (e ∷ es) is = past_along l (step_of l f e.0 e.1).flat number es (past_step l f e.0 e.1 number is)

in_hand : (phase : Phase) → is_taken_phase phase ≡ true → is_wanted_phase phase ≡ false
in_hand phases.Wanted h = absurd cc
in_hand phases.Taken h = refl
in_hand phases.Launched h = refl

taken_not_wanted : (row : Option Process) → is_taken row ≡ true → is_wanted_in row ≡ false
taken_not_wanted None h = absurd cc
taken_not_wanted (Some row) h = in_hand row.phase h

-- the launch that is wanted first is of a process that is listed
pub first_listed : (f : Flat) (number : ℕ) → Sound f → first_wanted f.wanted ≡ Some number → is_some (process_of f number) ≡ true
first_listed f number s first = is_some-find (has number) f.processes ∙ first_there f.wanted f.processes number s.processes.wanted first

past_now : (l : Limits) (f : Flat) (moment : ℕ) (step : Step) (number : ℕ) → Sound f → IsTrue (may l f moment step)
    → takes_process f number step ≡ true → IsPast number (step_of l f moment step).flat
past_now l f moment LaunchTaken number s ok takes =
    let first = it_is number (first_wanted f.wanted) takes in
    record {
      low = (let low = listed_below f number s (first_listed f number s first) in let up = process_rises l f moment LaunchTaken in
          omega (arith, low, up));
      past = taken_not_wanted _ (taken_is_listed l f moment number s first);
    }
past_now l f moment step number s ok takes = absurd cc

taken_past : (l : Limits) (f : Flat) (number : ℕ) (es : List Entry) → Sound f → IsLegal l f es → has_taken l f number es ≡ true
    → IsPast number (run_state l f es)
taken_past l f number [] s legal taken = absurd cc
taken_past l f number (e ∷ es) s legal taken =
    let after = (step_of l f e.0 e.1).flat in
    elim (takes_process f number e.1) as (λ b. takes_process f number e.1 ≡ b → (b || has_taken l after number es) ≡ true
    → IsPast number (run_state l after es)) [
      | true ↦ λ h g. past_along l after number es (past_now l f e.0 e.1 number s legal.0 h)
      | false ↦ λ h g. taken_past l after number es (keeps l f e s legal.0) legal.1 g
    ] refl taken

-- ## The launch that is wanted first

found_wanted : (number : ℕ) (rows : List Process) → All (λ (row : Process). (row.number == number) ≡ true → is_to_launch row ≡ true) rows
    → is_some (find (has number) rows) ≡ true → is_wanted_in (find (has number) rows) ≡ true
found_wanted number [] owns there = absurd cc
found_wanted number (row ∷ rows) owns there =
    elim (row.number == number) as (λ b. (row.number == number) ≡ b → is_some (cond b (Some row) (find (has number) rows)) ≡ true
    → is_wanted_in (cond b (Some row) (find (has number) rows)) ≡ true) [
      | true ↦ λ e h. All-head (λ (r : Process). (r.number == number) ≡ true → is_to_launch r ≡ true) row rows owns e
      | false ↦ λ e h. found_wanted number rows (All-tail (λ (r : Process). (r.number == number) ≡ true
          → is_to_launch r ≡ true) row rows owns) h
    ] refl there

wanted_first : (f : Flat) (number : ℕ) → Sound f → first_wanted f.wanted ≡ Some number → is_wanted_in (process_of f number) ≡ true
wanted_first f number s first =
    found_wanted number f.processes (found_owns is_to_launch number_of number f.processes s.processes.numbered.rising
    (first_is_to_be f.wanted f.processes number s.processes.wanted first)) (first_listed f number s first)

process_anew : (l : Limits) (f : Flat) (front : List Entry) (moment : ℕ) (step : Step) → Sound f → Sound (run_state l f front)
    → IsLegal l f front → IsTrue (may l (run_state l f front) moment step)
    → IfSome (process_taken (run_state l f front) step) (λ number. has_taken l f number front ≡ false)
process_anew l f front moment LaunchTaken s sound legal ok =
    (let g = run_state l f front in
    if_some (λ number. has_taken l f number front ≡ false) (first_wanted g.wanted) (λ first is.
    elim (has_taken l f first front) as (λ b. has_taken l f first front ≡ b → b ≡ false) [
      | true ↦ λ h. absurd (let past = (taken_past l f first front s legal h).past in let now = wanted_first g first sound is in cc)
      | false ↦ λ h. refl
    ] refl))
process_anew l f front moment step s sound legal ok = tt

-- ## Histories

pub makes_anew : (l : Limits) (f : Flat) (es : List Entry) → Sound f → IsLegal l f es → (front : List Entry) (e : Entry) (rest : List Entry)
    → es ≡ front ++ e ∷ rest → MakesAnew l f front e
unfolding state
makes_anew l f es s legal front e rest split =
    let whole = subst (IsLegal l f) split legal in
    let before = made_front l f front (e ∷ rest) whole in
    let g = run_state l f front in
    record {
      joined = caller_anew l f front e.1;
      taken = process_anew l f front e.0 e.1 s (at_end Sound l (keeps l) f front s before) before (may_behind l f front e rest whole);
      begun = IfSome_then (plan_made (step_of l g e.0 e.1).answer) (begun l g e.0 e.1)
          (λ number given caller. not_yet (has_begun l f caller number front) number g.next.plan (began_below l f caller number front)
          (let is = given.is_next in omega (arith, is)));
    }
