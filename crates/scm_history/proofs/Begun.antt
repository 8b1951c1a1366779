-- A start that is answered was begun by a Call of the same caller.
use Rattle.std.proofs.Common.{ℕ, ◌≡◌, ◌==◌, ◌&&◌, ◌||◌, Bool, true, false, not, cond, IsTrue, List, [], ◌∷◌, Option, None, Some, find, map}
use Rattle.std.proofs.Common.{ap, sym, refl, subst, eq-eqb, eqb-true, ne_eqb}
use Rattle.std.specs.Prelude.{option_map}
use Rattle.std.specs.List.{AllByRecursion}
use Rattle.scm_model.specs.declared.flat.DueKind.{DueKind}
use Rattle.scm_model.specs.declared.flat.DueKind.TheVariants as dues
use Rattle.scm_model.specs.declared.flat.Flat.{Flat}
use Rattle.scm_model.specs.declared.flat.Limits.{Limits}
use Rattle.scm_model.specs.declared.flat.Plan.{Plan}
use Rattle.scm_model.specs.declared.calls.Reply.{Reply}
use Rattle.scm_model.specs.declared.calls.Request.{Request}
use Rattle.scm_model.specs.declared.calls.Request.TheVariants as request
use Rattle.scm_model.specs.declared.steps.Answer.{Answer}
use Rattle.scm_model.specs.declared.steps.Answer.TheVariants as answer
use Rattle.scm_model.specs.declared.steps.Kept.{Kept}
use Rattle.scm_model.specs.declared.steps.Step.{Step}
use Rattle.scm_model.specs.declared.steps.Step.TheVariants.{Call, EndStart, Launched, LaunchFailed, Report, Ended, Tick, Raised, Gone}
use Rattle.scm_model.specs.declared.steps.Step.TheVariants.{LaunchTaken, ControlTaken}
use Rattle.scm_model.specs.Changes.{with_moment}
use Rattle.start_plan.specs.Decided.{aims_among, plan_caller, code_of, decided_if, decided_in, is_callers, is_numbered, without_plan}
use Rattle.start_plan.specs.Settle.{settle_all, settled, stays}
use Rattle.start_plan.proofs.Keeps.{Keeps, all_filter, keeps_all}
use Rattle.scm_rules.specs.Reports.{reporting}
use Rattle.scm_rules.specs.Launches.{currents, currents_in, with_fallen}
use Rattle.scm_rules.specs.Runs.{run_state}
use Rattle.scm_model.specs.Entries.{Entry}
use Rattle.scm_rules.specs.Start.{is_caller_of, start_done, start_verdict, with_start}
use Rattle.scm_model.specs.Refused.{answered}
use Rattle.scm_rules.specs.Steps.{call_answer, answered_by, at_moment, effect_of, finished, left_by, may, step_of}
use Rattle.scm_rules.specs.Verdicts.{call_of, done_of, told_refused, verdict}
use Rattle.scm_runs.proofs.Calls.{by_verdict}
use Rattle.scm_runs.proofs.Plans.{all_more}
use Rattle.scm_rules.specs.Named.{has_begun, is_it, names_caller, plan_made}
use Rattle.scm_history.specs.Made.{AnswersItsOwn}
use Rattle.std.proofs.lemmas.Bool.{and_parts}
use Rattle.scm_runs.proofs.Founds.{opened_keeps, started_keeps, notify_apart}
use Rattle.scm_runs.proofs.Failing.{all_failing_apart, failing_apart}
use Rattle.scm_rules.specs.Failures.{failed_by}
use Rattle.scm_model.specs.declared.codes.TheConstants.{ERROR_PROCESS_ABORTED}
use Rattle.scm_model.specs.Rows.{held_service}
use Rattle.scm_runs.proofs.Unasked.{expired, raised_by, ticked_by}
use Rattle.scm_runs.proofs.Handles.{not_nobody}
use Rattle.scm_runs.proofs.Sound.{Sound}
use Rattle.scm_model.specs.declared.flat.Service.{Service}

-- a plan has another number or another caller
abbrev IsOther : ℕ → ℕ → Plan → Type 0
IsOther number caller plan = (plan.number == number && plan.caller == caller) ≡ false

abbrev AreOther : ℕ → ℕ → List Plan → Type 0
AreOther number caller plans = AllByRecursion (IsOther number caller) plans

-- ## What keeps them so

coded : (number caller : ℕ) (test : Plan → Bool) (code : ℕ) (plans : List Plan) → AreOther number caller plans
    → AreOther number caller (map (decided_if test code) plans)
coded number caller test code [] all = tt
coded number caller test code (plan ∷ plans) all = (all.0, coded number caller test code plans all.1)

decided : (number caller : ℕ) (test : Plan → Bool) (code : ℕ) (plans : List Plan) → AreOther number caller plans
    → AreOther number caller (decided_in test code plans)
decided number caller test code plans all = all_filter (IsOther number caller) stays (map (decided_if test code) plans)
    (coded number caller test code plans all)

has_expired : (number caller : ℕ) (plans : List Plan) (kind : DueKind) → AreOther number caller plans
    → AreOther number caller (expired plans kind)
has_expired number caller plans (dues.Deadline plan) all = decided number caller (is_numbered plan) 1053 plans all
has_expired number caller plans kind all = all

stays_other : (l : Limits) (number caller : ℕ) → Keeps l (λ f. Unit {0}) (IsOther number caller)
stays_other l number caller = record {
  enters = λ f plan service words entry p. tt;
  tries = λ f plan service entry other. other;
  drops = λ plan service rest code other. other;
  meets = λ plan services other. other;
}

settles : (l : Limits) (f : Flat) (number caller : ℕ) → AreOther number caller f.plans → AreOther number caller (settled l f).plans
settles l f number caller all =
    all_filter (IsOther number caller) stays (settle_all l f f.plans).plans
    (keeps_all l (λ f. Unit {0}) (IsOther number caller) (stays_other l number caller) f f.plans tt all).plans

-- the plan with the number leaves
ended : (number caller : ℕ) (plans : List Plan) → AreOther number caller (without_plan plans number)
ended number caller [] = tt
ended number caller (plan ∷ plans) =
    elim (plan.number == number) as (λ b. (plan.number == number) ≡ b →
    AreOther number caller (cond (not b) (plan ∷ without_plan plans number) (without_plan plans number))) [
      | true ↦ λ e. ended number caller plans
      | false ↦ λ e. (ap (λ b. b && plan.caller == caller) e, ended number caller plans)
    ] refl

left : (number caller : ℕ) (g : Flat) (plan : ℕ) (code : Option ℕ) → AreOther number caller g.plans
    → AreOther number caller (left_by g plan code).plans
left number caller g plan None all = all
left number caller g plan (Some code) all = all_filter (IsOther number caller) (λ (row : Plan). not (is_numbered plan row)) g.plans all

finishes : (number caller : ℕ) (g : Flat) (told : Answer) → AreOther number caller g.plans
    → AreOther number caller (finished g told).flat.plans
finishes number caller g (answer.Begun plan) all = left number caller g plan (code_of g.plans plan) all
finishes number caller g told all = all

-- ## Calls

-- a start that its call answers leaves
left_answered : (number caller next : ℕ) (g : Flat) (code : Option ℕ) → next ≡ number
    → is_it number (plan_made (answered_by next code)) ≡ false → AreOther number caller (left_by g next code).plans
left_answered number caller next g None same told = absurd (let t = eq-eqb number next (sym same) in cc)
left_answered number caller next g (Some code) same told = subst (λ n. AreOther number caller (without_plan g.plans n)) (sym same)
    (ended number caller g.plans)

-- what a call comes to where another plan begins, none, or one whose start it answers
called : (l : Limits) (number caller next by : ℕ) (begins : Bool) (told : Reply) (h : Flat)
    → (begins ≡ false → AreOther number caller h.plans) → ((next == number && by == caller) ≡ false → AreOther number caller h.plans)
    → (caller == by && is_it number (plan_made (finished (settled l h) (call_answer begins next told)).answer)) ≡ false
    → AreOther number caller (finished (settled l h) (call_answer begins next told)).flat.plans
called l number caller next by false told h none other not_told = settles l h number caller (none refl)
called l number caller next by true told h none other not_told =
    let g = settled l h in
    let code = code_of g.plans next in
    elim (next == number && by == caller) as (λ b. (next == number && by == caller) ≡ b
    → AreOther number caller (left_by g next code).plans) [
      | true ↦ λ e. (let both = and_parts (next == number) (by == caller) e in
          let mine : (caller == by) ≡ true = eq-eqb caller by (sym (eqb-true by caller both.1)) in
          left_answered number caller next g code (eqb-true next number both.0)
          (subst (λ b. (b && is_it number (plan_made (answered_by next code))) ≡ false) mine not_told))
      | false ↦ λ e. left number caller g next code (settles l h number caller (other e))
    ] refl

change_done : (number caller : ℕ) (l : Limits) (g : Flat) (by : ℕ) (asked : Request) (append : Kept)
    → (done_of l g by asked).flat.plans ≡ g.plans → AreOther number caller g.plans
    → AreOther number caller (settled l (call_of l g by asked append).flat).plans
change_done number caller l g by asked append same all =
    settles l (call_of l g by asked append).flat number caller
    (by_verdict (λ r. AreOther number caller r.flat.plans) (verdict l g by asked append)
    (told_refused g by asked (verdict l g by asked append)) g (done_of l g by asked)
    (λ e. subst (AreOther number caller) (sym same) all) (λ e. all))

of_call : (number caller : ℕ) (l : Limits) (f : Flat) (moment by : ℕ) (asked : Request) (append : Kept) → AreOther number caller f.plans
    → (caller == by && is_it number (plan_made (step_of l f moment (Call by asked append)).answer)) ≡ false
    → AreOther number caller (step_of l f moment (Call by asked append)).flat.plans
of_call number caller l f moment by (request.Start handle words) append all not_told =
    let g = with_moment f moment in
    let code = start_verdict g by handle words in
    let told = told_refused g by (request.Start handle words) code in
    let done = start_done g by handle words in
    called l number caller f.next.plan by (code == 0) (answered code told g done).reply (answered code told g done).flat
    (elim (code == 0) as (λ b. b ≡ false → AreOther number caller (cond b done (record { reply = told; flat = g })).flat.plans)
    [ true ↦ λ e. absurd cc | false ↦ λ e. all ])
    (elim (code == 0) as (λ b. (f.next.plan == number && by == caller) ≡ false
    → AreOther number caller (cond b done (record { reply = told; flat = g })).flat.plans) [
      | true ↦ λ e. started_keeps (λ (h : Flat). AreOther number caller h.plans) g by handle words all
          (λ row is. all_more (IsOther number caller) f.plans _ all e)
      | false ↦ λ e. all
    ]) not_told
of_call number caller l f moment by (request.OpenService handle name access) append all not_told =
    let g = with_moment f moment in
    change_done number caller l g by (request.OpenService handle name access) append
    (opened_keeps (λ (h : Flat). h.plans ≡ g.plans) g by name access refl (λ row is. refl)) all
of_call number caller l f moment by (request.SetStatus handle status) append all not_told =
    let g = with_moment f moment in
    change_done number caller l g by (request.SetStatus handle status) append
    (failing_apart (λ (h : Flat). h.plans ≡ g.plans) (failed_by status (held_service g by handle)) _ refl) all
of_call number caller l f moment by (request.Notify handle mask) append all not_told =
    let g = with_moment f moment in
    change_done number caller l g by (request.Notify handle mask) append
    (notify_apart (λ (h : Flat). h.plans ≡ g.plans) g by handle mask (λ rows next. refl)) all
of_call number caller l f moment by asked append all not_told = change_done number caller l (with_moment f moment) by asked append refl all

-- ## Steps

-- a start that no caller asks for is nobody's
nobodys : (caller : ℕ) (same : Bool) → (caller == 0) ≡ false → (same && 0 == caller) ≡ false
nobodys caller true somebody = ne_eqb 0 caller (λ e. absurd (let none = eq-eqb caller 0 (sym e) in cc))
nobodys caller false somebody = refl

start_other : (number caller : ℕ) (g : Flat) (row : Service) → (caller == 0) ≡ false → AreOther number caller g.plans
    → AreOther number caller (with_start 0 [] row g).plans
start_other number caller g row somebody all = all_more (IsOther number caller) g.plans _ all
    (nobodys caller (g.next.plan == number) somebody)

of_step : (number caller : ℕ) (l : Limits) (f : Flat) (moment : ℕ) (step : Step) → (caller == 0) ≡ false → AreOther number caller f.plans
    → (names_caller caller step && is_it number (plan_made (step_of l f moment step).answer)) ≡ false
    → AreOther number caller (step_of l f moment step).flat.plans
of_step number caller l f moment (Call by asked append) somebody all not_told =
    of_call number caller l f moment by asked append all not_told
of_step number caller l f moment (EndStart by plan) somebody all not_told =
    settles l (effect_of l (with_moment f moment) (EndStart by plan)).flat number caller
    (all_filter (IsOther number caller) (λ (row : Plan). not (is_numbered plan row)) f.plans all)
of_step number caller l f moment (Launched process pid) somebody all not_told =
    settles l (effect_of l (with_moment f moment) (Launched process pid)).flat number caller
    (decided number caller (aims_among (currents_in process f.services)) 0 f.plans all)
of_step number caller l f moment (LaunchFailed process code) somebody all not_told =
    settles l (effect_of l (with_moment f moment) (LaunchFailed process code)).flat number caller
    (decided number caller (aims_among (currents_in process f.services)) code f.plans all)
of_step number caller l f moment LaunchTaken somebody all not_told =
    let done = effect_of l (with_moment f moment) LaunchTaken in
    finishes number caller (settled l done.flat) done.answer (settles l done.flat number caller all)
of_step number caller l f moment (ControlTaken process) somebody all not_told =
    let done = effect_of l (with_moment f moment) (ControlTaken process) in
    finishes number caller (settled l done.flat) done.answer (settles l done.flat number caller all)
of_step number caller l f moment (Report process service status) somebody all not_told =
    let done = effect_of l (with_moment f moment) (Report process service status) in
    finishes number caller (settled l done.flat) done.answer
    (settles l done.flat number caller (failing_apart (λ (g : Flat). AreOther number caller g.plans)
    (failed_by status (reporting f process service)) _ all))
of_step number caller l f moment (Ended process) somebody all not_told =
    let done = effect_of l (with_moment f moment) (Ended process) in
    finishes number caller (settled l done.flat) done.answer
    (settles l done.flat number caller (all_failing_apart (λ (g : Flat). AreOther number caller g.plans) (currents process f.services)
    (with_fallen (with_moment f moment) process ERROR_PROCESS_ABORTED) all))
of_step number caller l f moment Tick somebody all not_told =
    settles l (effect_of l (with_moment f moment) Tick).flat number caller
    (ticked_by (λ (g : Flat). AreOther number caller g.plans) l (record {
      spends = λ g row is other. has_expired number caller g.plans row.kind other;
      starts = λ g row there can other. start_other number caller g row somebody other;
      runs = λ g row there can other. other;
      reboots = λ g other. other;
    }) (with_moment f moment) all)
of_step number caller l f moment (Raised by subtype) somebody all not_told =
    settles l (effect_of l (with_moment f moment) (Raised by subtype)).flat number caller
    (raised_by (λ (g : Flat). AreOther number caller g.plans) l subtype
    (record {
      starts = λ g row there can other. start_other number caller g row somebody other;
      stops = λ g row action there is stops gets other. other;
    }) (with_moment f moment) by all)
of_step number caller l f moment (Gone by) somebody all not_told =
    settles l (effect_of l (with_moment f moment) (Gone by)).flat number caller
    (all_filter (IsOther number caller) (λ (row : Plan). not (is_callers by row)) f.plans all)
of_step number caller l f moment step somebody all not_told = settles l (effect_of l (at_moment f moment step) step).flat number caller all

-- ## Histories

-- no plan is the caller's with this number
not_callers : (number caller : ℕ) (plans : List Plan) → AreOther number caller plans
    → is_caller_of (plan_caller plans number) caller ≡ false
not_callers number caller [] all = refl
not_callers number caller (plan ∷ plans) all =
    elim (plan.number == number) as (λ b. (b && plan.caller == caller) ≡ false
    → is_caller_of (option_map (λ (row : Plan). row.caller) (cond b (Some plan) (find (is_numbered number) plans))) caller ≡ false)
    [ true ↦ λ h. h | false ↦ λ h. not_callers number caller plans all.1 ] all.0

-- a plan that is a caller's in the end, and wasn't in the beginning, was begun by it
began : (l : Limits) (f : Flat) (number caller : ℕ) (es : List Entry) → (caller == 0) ≡ false → AreOther number caller f.plans
    → is_caller_of (plan_caller (run_state l f es).plans number) caller ≡ true → has_begun l f caller number es ≡ true
began l f number caller [] somebody all there = absurd (let none = not_callers number caller f.plans all in cc)
began l f number caller (e ∷ es) somebody all there =
    let after = (step_of l f e.0 e.1).flat in
    elim (names_caller caller e.1 && is_it number (plan_made (step_of l f e.0 e.1).answer)) as (λ b. (names_caller caller e.1
    && is_it number (plan_made (step_of l f e.0 e.1).answer)) ≡ b
    → (b || has_begun l after caller number es) ≡ true) [
      | true ↦ λ h. refl
      | false ↦ λ h. began l after number caller es somebody (of_step number caller l f e.0 e.1 somebody all h) there
    ] refl

pub answers_own : (l : Limits) (f : Flat) (front : List Entry) (moment : ℕ) (step : Step) → Sound (run_state l f front) → f.plans ≡ []
    → IsTrue (may l (run_state l f front) moment step) → AnswersItsOwn l f front step
answers_own l f front moment (EndStart caller plan) s none ok =
    (let g = run_state l f front in
    let all = and_parts _ _ (and_parts _ _ ok).0 in
    let both = and_parts _ _ all.1 in
    began l f plan caller front (not_nobody caller g.callers s.handles.callers.positive all.0)
    (subst (AreOther plan caller) (sym none) tt) both.0)
answers_own l f front moment step s none ok = tt
