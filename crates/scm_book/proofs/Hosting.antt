-- Where settling after a step enters no process that is listed: none is shared, the plans are decided, or they rest.
use Rattle.std.proofs.Common.{ℕ, ◌≡◌, ◌⊎◌, ◌∙◌, ◌<◌, ◌==◌, ◌&&◌, ◌||◌, Bool, true, false, not, cond, List, [], ◌∷◌, Option, None, Some, ap}
use Rattle.std.proofs.Common.{find, inl, inr, map, refl}
use Rattle.std.specs.Prelude.{is_none, is_some, option_map}
use Rattle.std.specs.List.{AllByRecursion, list_any}
use Rattle.std.proofs.lemmas.Bool.{or_parts}
use Rattle.scm_model.specs.declared.calls.Request.{Request}
use Rattle.scm_model.specs.declared.calls.Request.TheVariants as request
use Rattle.scm_model.specs.declared.codes.TheConstants.{ERROR_PROCESS_ABORTED}
use Rattle.scm_model.specs.declared.flat.Flat.{Flat}
use Rattle.scm_model.specs.declared.flat.Limits.{Limits}
use Rattle.scm_model.specs.declared.flat.Phase.TheVariants as phases
use Rattle.scm_model.specs.declared.flat.Plan.{Plan}
use Rattle.scm_model.specs.declared.flat.Process.{Process}
use Rattle.scm_model.specs.declared.steps.Kept.{Kept}
use Rattle.scm_model.specs.declared.steps.Step.{Step}
use Rattle.scm_model.specs.declared.steps.Step.TheVariants.{Call, ControlTaken, EndStart, Ended, Gone, LaunchFailed, LaunchTaken, Launched}
use Rattle.scm_model.specs.declared.steps.Step.TheVariants.{Raised, Report, Tick}
use Rattle.scm_model.specs.Changes.{with_moment}
use Rattle.scm_model.specs.Processes.{is_shared}
use Rattle.scm_model.specs.Rows.{held_service}
use Rattle.scm_model.proofs.Found.{found_keeps}
use Rattle.start_plan.specs.Decided.{aims_among, decided_if, decided_in, is_any_undecided, is_callers, is_numbered}
use Rattle.start_plan.specs.Settle.{settle_all, stays}
use Rattle.start_plan.proofs.Keeps.{all_filter}
use Rattle.scm_rules.specs.Controls.{first_asked}
use Rattle.scm_rules.specs.Failures.{failed_by}
use Rattle.scm_rules.specs.Launches.{currents, currents_in, first_wanted, launched_if, process_of, taken_if, with_fallen, without_process}
use Rattle.scm_rules.specs.Reports.{reporting}
use Rattle.scm_rules.specs.Steps.{at_moment, effect_of}
use Rattle.scm_rules.specs.Verdicts.{call_of, done_of, told_refused, verdict}
use Rattle.scm_runs.proofs.Calls.{by_verdict}
use Rattle.scm_runs.proofs.Failing.{all_failing_apart, failing_apart}
use Rattle.scm_runs.proofs.Founds.{notify_apart, opened_keeps}
use Rattle.scm_runs.proofs.Plans.{all_weaker}
use Rattle.scm_runs.proofs.Processes.{shared_map}
use Rattle.scm_runs.proofs.Rests.{Rests, all_still}
use Rattle.scm_history.specs.Processes.{apart_from_controls}
use Rattle.scm_history.proofs.Effects.{of_call, of_raise, released_apart, sent_apart}
use Rattle.scm_history.proofs.Processes.{has, launches, left_not, takes, ticked_still, told_apart}
use Rattle.scm_book.specs.Called.{is_start}
use Rattle.scm_book.specs.Ringing.{begins_plans, may_host, rings_common}

-- ## Why no host is entered

-- the step isn't one of those by which plans go on, no process is shared, or no plan is undecided and none begins
pub why_none : (f : Flat) (step : Step) → (rings_common step && may_host f step) ≡ false
    → (rings_common step ≡ false) ⊎ ((list_any (λ (row : Process). row.shared) f.processes ≡ false) ⊎ ((begins_plans step ≡ false)
    × (is_any_undecided f.plans ≡ false)))
why_none f step none = by (rings_common step) (list_any (λ (row : Process). row.shared) f.processes)
    (begins_plans step || is_any_undecided f.plans) (or_parts (begins_plans step) (is_any_undecided f.plans)) none
  where
    by : {X : Type 0} (rings shared goes : Bool) → (goes ≡ false → X) → (rings && (shared && goes)) ≡ false
        → (rings ≡ false) ⊎ ((shared ≡ false) ⊎ X)
    by false shared goes decided none = inl refl
    by true false goes decided none = inr (inl refl)
    by true true goes decided none = inr (inr (decided none))

-- ## Processes that aren't shared

-- none is, if none of them all is
alone_in : (number : ℕ) (rows : List Process) → list_any (λ (row : Process). row.shared) rows ≡ false
    → is_shared (find (has number) rows) ≡ false
alone_in number [] none = refl
alone_in number (row ∷ rows) none =
    let both = or_parts row.shared (list_any (λ (r : Process). r.shared) rows) none in
    elim (has number row) as (λ b. is_shared (cond b (Some row) (find (has number) rows)) ≡ false)
    [ true ↦ both.0 | false ↦ alone_in number rows both.1 ]

shared_apart : (row : Option Process) → is_shared (option_map apart_from_controls row) ≡ is_shared row
shared_apart None = refl
shared_apart (Some row) = refl

taken_shared : (one : ℕ) (row : Process) → (taken_if one row).shared ≡ row.shared
taken_shared one row = elim (row.number == one) as (λ b. (cond b (record row { phase = phases.Taken }) row).shared ≡ row.shared)
    [ true ↦ refl | false ↦ refl ]

launched_shared : (one pid : ℕ) (row : Process) → (launched_if one pid row).shared ≡ row.shared
launched_shared one pid row = elim (row.number == one) as (λ b. (cond b (record row { phase = phases.Launched; pid = pid }) row).shared ≡
    row.shared) [ true ↦ refl | false ↦ refl ]

-- an effect shares no process whose number was given
effect_alone : (l : Limits) (f : Flat) (moment : ℕ) (step : Step) (number : ℕ) → number < f.next.process
    → is_shared (process_of f number) ≡ false → is_shared (process_of (effect_of l (at_moment f moment step) step).flat number) ≡ false
effect_alone l f moment (Call caller asked append) number low alone =
    told_apart is_shared shared_apart number f.processes _ (of_call l (with_moment f moment) caller asked append).processes ∙ alone
effect_alone l f moment LaunchTaken number low alone =
    found_keeps (λ (rows : List Process). is_shared (find (has number) rows) ≡ false) (λ process. map (taken_if process))
    (first_wanted f.wanted) f.processes alone
    (λ one is. shared_map (taken_if one) (takes one).number_same (taken_shared one) number f.processes ∙ alone)
effect_alone l f moment (Launched process pid) number low alone =
    shared_map (launched_if process pid) (launches process pid).number_same (launched_shared process pid) number f.processes ∙ alone
effect_alone l f moment (LaunchFailed process code) number low alone = left_not is_shared refl number process f.processes alone
effect_alone l f moment (Report process service status) number low alone =
    failing_apart (λ (g : Flat). is_shared (process_of g number) ≡ false) (failed_by status (reporting f process service)) _
    (told_apart is_shared shared_apart number f.processes _ (released_apart status (reporting f process service) f.processes) ∙ alone)
effect_alone l f moment (Ended process) number low alone =
    all_failing_apart (λ (g : Flat). is_shared (process_of (without_process g process) number) ≡ false) (currents process f.services)
    (with_fallen (with_moment f moment) process ERROR_PROCESS_ABORTED) (left_not is_shared refl number process f.processes alone)
effect_alone l f moment (ControlTaken process) number low alone =
    told_apart is_shared shared_apart number f.processes _ (sent_apart (first_asked f process) process f.processes) ∙ alone
effect_alone l f moment Tick number low alone = ap is_shared (ticked_still l (with_moment f moment) number low).same ∙ alone
effect_alone l f moment (Raised caller subtype) number low alone =
    told_apart is_shared shared_apart number f.processes _ (of_raise l (with_moment f moment) caller subtype).processes ∙ alone
effect_alone l f moment step number low alone = alone

pub stays_alone : (l : Limits) (f : Flat) (moment : ℕ) (step : Step) (number : ℕ) → number < f.next.process
    → list_any (λ (row : Process). row.shared) f.processes ≡ false
    → is_shared (process_of (effect_of l (at_moment f moment step) step).flat number) ≡ false
stays_alone l f moment step number low none = effect_alone l f moment step number low (alone_in number f.processes none)

-- ## Plans that are decided

abbrev IsDecided : Plan → Type 0
IsDecided plan = is_some plan.code ≡ true

is_decided : (code : Option ℕ) → is_none code ≡ false → is_some code ≡ true
is_decided None decided = absurd cc
is_decided (Some code) decided = refl

all_decided : (plans : List Plan) → is_any_undecided plans ≡ false → AllByRecursion IsDecided plans
all_decided [] none = tt
all_decided (plan ∷ plans) none =
    let both = or_parts (is_none plan.code) (is_any_undecided plans) none in (is_decided plan.code both.0, all_decided plans both.1)

all_coded : (test : Plan → Bool) (code : ℕ) (plans : List Plan) → AllByRecursion IsDecided plans
    → AllByRecursion IsDecided (map (decided_if test code) plans)
all_coded test code [] decided = tt
all_coded test code (plan ∷ plans) decided = (kept (test plan) code plan.code decided.0, all_coded test code plans decided.1)
  where
    kept : (b : Bool) (code : ℕ) (was : Option ℕ) → is_some was ≡ true → is_some (cond (b && is_none was) (Some code) was) ≡ true
    kept b code None decided = absurd cc
    kept true code (Some was) decided = refl
    kept false code (Some was) decided = refl

-- a decision leaves them so
still_so : (test : Plan → Bool) (code : ℕ) (plans : List Plan) → AllByRecursion IsDecided plans
    → AllByRecursion IsDecided (decided_in test code plans)
still_so test code plans decided =
    all_filter IsDecided stays (map (decided_if test code) plans) (all_coded test code plans decided)

done_decided : (l : Limits) (f : Flat) (caller : ℕ) (asked : Request) → is_start asked ≡ false → AllByRecursion IsDecided f.plans
    → AllByRecursion IsDecided (done_of l f caller asked).flat.plans
done_decided l f caller (request.Start handle words) none decided = absurd cc
done_decided l f caller (request.OpenService handle name access) none decided =
    opened_keeps (λ (g : Flat). AllByRecursion IsDecided g.plans) f caller name access decided (λ row is. decided)
done_decided l f caller (request.SetStatus handle status) none decided =
    failing_apart (λ (g : Flat). AllByRecursion IsDecided g.plans) (failed_by status (held_service f caller handle)) _ decided
done_decided l f caller (request.Notify handle mask) none decided =
    notify_apart (λ (g : Flat). AllByRecursion IsDecided g.plans) f caller handle mask (λ rows next. decided)
done_decided l f caller asked none decided = decided

call_decided : (l : Limits) (f : Flat) (caller : ℕ) (asked : Request) (append : Kept) → is_start asked ≡ false
    → AllByRecursion IsDecided f.plans → AllByRecursion IsDecided (call_of l f caller asked append).flat.plans
call_decided l f caller asked append none decided =
    by_verdict (λ r. AllByRecursion IsDecided r.flat.plans) (verdict l f caller asked append)
    (told_refused f caller asked (verdict l f caller asked append)) f (done_of l f caller asked)
    (λ e. done_decided l f caller asked none decided) (λ e. decided)

effect_decided : (l : Limits) (f : Flat) (moment : ℕ) (step : Step) → begins_plans step ≡ false → AllByRecursion IsDecided f.plans
    → AllByRecursion IsDecided (effect_of l (at_moment f moment step) step).flat.plans
effect_decided l f moment (Call caller asked append) none decided = call_decided l (with_moment f moment) caller asked append none decided
effect_decided l f moment (EndStart caller plan) none decided =
    all_filter IsDecided (λ (row : Plan). not (is_numbered plan row)) f.plans decided
effect_decided l f moment (Launched process pid) none decided =
    still_so (aims_among (currents_in process f.services)) 0 f.plans decided
effect_decided l f moment (LaunchFailed process code) none decided =
    still_so (aims_among (currents_in process f.services)) code f.plans decided
effect_decided l f moment (Report process service status) none decided =
    failing_apart (λ (g : Flat). AllByRecursion IsDecided g.plans) (failed_by status (reporting f process service)) _ decided
effect_decided l f moment (Ended process) none decided =
    all_failing_apart (λ (g : Flat). AllByRecursion IsDecided g.plans) (currents process f.services)
    (with_fallen (with_moment f moment) process ERROR_PROCESS_ABORTED) decided
effect_decided l f moment Tick none decided = absurd cc
effect_decided l f moment (Raised caller subtype) none decided = absurd cc
effect_decided l f moment (Gone caller) none decided =
    all_filter IsDecided (λ (row : Plan). not (is_callers caller row)) f.plans decided
effect_decided l f moment step none decided = decided

-- settling leaves the state as the effect left it
pub decided_still : (l : Limits) (f : Flat) (moment : ℕ) (step : Step) → begins_plans step ≡ false → is_any_undecided f.plans ≡ false
    → settle_all l (effect_of l (at_moment f moment step) step).flat (effect_of l (at_moment f moment step) step).flat.plans
    ≡ record {
      flat = (effect_of l (at_moment f moment step) step).flat;
      plans = (effect_of l (at_moment f moment step) step).flat.plans;
      hosted = [];
    }
decided_still l f moment step none decided =
    let g = (effect_of l (at_moment f moment step) step).flat in
    all_still l g g.plans (all_weaker IsDecided (Rests l g) (λ plan is. inl is) g.plans
    (effect_decided l f moment step none (all_decided f.plans decided)))
