-- Numbers are given once.
use Rattle.std.proofs.Common.{ℕ, ◌≡◌, ◌∙◌, ◌<◌, ◌≤◌, ◌==◌, Bool, true, false, not, cond, List, Option, None, Some, ap, sym, refl, subst}
use Rattle.std.proofs.Common.{arith, leb, leb-true, leb-false, eqb-true, unwrap_or, []}
use Rattle.std.specs.Prelude.{IfSome, is_some}
use Rattle.scm_model.specs.declared.flat.Flat.{Flat}
use Rattle.scm_model.specs.declared.flat.Limits.{Limits}
use Rattle.scm_model.specs.declared.flat.Plan.{Plan}
use Rattle.scm_model.specs.declared.calls.Request.{Request}
use Rattle.scm_model.specs.declared.calls.Request.TheVariants as request
use Rattle.scm_model.specs.declared.steps.Answer.{Answer}
use Rattle.scm_model.specs.declared.steps.Answer.TheVariants as answer
use Rattle.scm_model.specs.declared.steps.Kept.{Kept}
use Rattle.scm_model.specs.declared.steps.Step.{Step}
use Rattle.scm_model.specs.declared.steps.Step.TheVariants.{Joined, Call, EndStart, Report, Ended, Gone, LaunchTaken, ControlTaken, Tick}
use Rattle.scm_model.specs.declared.steps.Step.TheVariants.{Raised}
use Rattle.scm_model.specs.Changes.{with_moment}
use Rattle.start_plan.specs.Decided.{code_of, is_callers, is_numbered, plan_of}
use Rattle.start_plan.specs.Settle.{settled, stays}
use Rattle.scm_rules.specs.Reports.{reporting}
use Rattle.scm_rules.specs.Start.{start_done, start_verdict, with_start}
use Rattle.scm_rules.specs.Steps.{at_moment, effect_of, finished, answered_by, step_of}
use Rattle.scm_rules.specs.Verdicts.{call_of, done_of, told_refused, verdict}
use Rattle.scm_runs.proofs.Along.{Gives}
use Rattle.scm_runs.proofs.Calls.{by_verdict, start_held}
use Rattle.scm_runs.proofs.Sound.{Sound}
use Rattle.scm_rules.specs.Named.{caller_made, plan_made}
use Rattle.scm_history.specs.Numbers.{AreMadeOnce, IsGiven}
use Rattle.scm_history.proofs.Callers.{next_after, rising, stays_out}
use Rattle.scm_history.proofs.Finds.{find_push, is_some-map, none_filter}
use Rattle.scm_history.proofs.Lasting.{Allows, Lasts, coded_sides, end_none, of_step, report_none, settled_sides, sides, control_none}
use Rattle.scm_history.proofs.Lasting.{launch_none}
use Rattle.scm_history.proofs.Processes.{after_effect, none_effect, process_rises}
use Rattle.scm_history.proofs.Refusals.{start_refused}
use Rattle.scm_runs.proofs.Frames.{framed}
use Rattle.scm_model.specs.Found.{if_found}
use Rattle.scm_runs.proofs.Founds.{opened_keeps, started_keeps, notify_apart}
use Rattle.scm_rules.specs.Launches.{currents, first_wanted}
use Rattle.scm_rules.specs.Controls.{next_order}
use Rattle.scm_runs.proofs.Failing.{all_failing_apart, failing_apart}
use Rattle.scm_rules.specs.Failures.{failed_by}
use Rattle.scm_runs.proofs.Unasked.{raised_by, ticked_by}
use Rattle.scm_rules.specs.Launches.{with_fallen}
use Rattle.scm_model.specs.declared.codes.TheConstants.{ERROR_PROCESS_ABORTED}
use Rattle.scm_model.specs.Rows.{held_service}

-- ## Plans

abbrev pub IsNone : ℕ → List Plan → Type 0
IsNone number plans = is_some (plan_of plans number) ≡ false

pub none_last : (number : ℕ) → Lasts number (λ plan. Unit {0}) (λ gone. Unit {0}) (IsNone number)
none_last number = record {
  codes = λ test code plans none. sym (is_some-map sides (plan_of _ number)) ∙ ap is_some (coded_sides test code plans number)
      ∙ is_some-map sides (plan_of plans number) ∙ none;
  tidies = λ plans none. none_filter (is_numbered number) stays plans none;
  settles = λ l f plans none. sym (is_some-map sides (plan_of _ number)) ∙ ap is_some (settled_sides l f plans number)
      ∙ is_some-map sides (plan_of plans number) ∙ none;
  begins = λ plans plan other none. ap is_some (find_push (is_numbered number) plans plan other) ∙ none;
  ends = λ one plans other none. none_filter (is_numbered number) (λ (plan : Plan). not (is_numbered one plan)) plans none;
  leaves = λ gone plans other none. none_filter (is_numbered number) (λ (plan : Plan). not (is_callers gone plan)) plans none;
}

all_allowed : (step : Step) → Allows (λ plan. Unit {0}) (λ gone. Unit {0}) step
all_allowed (EndStart caller plan) = tt
all_allowed (Gone caller) = tt
all_allowed step = tt

-- a number that was given and has no plan has none later
pub stays_none : (l : Limits) (f : Flat) (moment : ℕ) (step : Step) (number : ℕ) → number < f.next.plan
    → is_some (plan_of f.plans number) ≡ false → is_some (plan_of (step_of l f moment step).flat.plans number) ≡ false
stays_none l f moment step number low none = of_step number (λ plan. Unit {0}) (λ gone. Unit {0}) (IsNone number)
    (none_last number) l f moment step low tt (all_allowed step) none

-- ## The next plan

plan_done : (l : Limits) (f : Flat) (caller : ℕ) (asked : Request) → f.next.plan ≤ (done_of l f caller asked).flat.next.plan
plan_done l f caller (request.OpenService handle name access) = opened_keeps (λ (g : Flat). f.next.plan ≤ g.next.plan) f caller name access
    (omega arith) (λ row is. omega arith)
plan_done l f caller (request.Start handle words) = started_keeps (λ (g : Flat). f.next.plan ≤ g.next.plan) f caller handle words
    (omega arith) (λ row is. omega arith)
plan_done l f caller (request.SetStatus handle status) = failing_apart (λ (g : Flat). f.next.plan ≤ g.next.plan)
    (failed_by status (held_service f caller handle)) _ (omega arith)
plan_done l f caller (request.Notify handle mask) = notify_apart (λ (g : Flat). f.next.plan ≤ g.next.plan) f caller handle mask
    (λ rows next. omega arith)
plan_done l f caller asked = omega arith

plan_call : (l : Limits) (f : Flat) (caller : ℕ) (asked : Request) (append : Kept)
    → f.next.plan ≤ (call_of l f caller asked append).flat.next.plan
plan_call l f caller asked append =
    by_verdict (λ r. f.next.plan ≤ r.flat.next.plan) (verdict l f caller asked append)
    (told_refused f caller asked (verdict l f caller asked append)) f (done_of l f caller asked)
    (λ e. plan_done l f caller asked) (λ e. omega arith)

plan_effect : (l : Limits) (f : Flat) (moment : ℕ) (step : Step) → f.next.plan ≤ (effect_of l (at_moment f moment step) step).flat.next.plan
plan_effect l f moment (Call caller asked append) = plan_call l (with_moment f moment) caller asked append
plan_effect l f moment (Report process service status) = failing_apart (λ (g : Flat). f.next.plan ≤ g.next.plan)
    (failed_by status (reporting f process service)) _ (omega arith)
plan_effect l f moment (Ended process) = all_failing_apart (λ (g : Flat). f.next.plan ≤ g.next.plan) (currents process f.services)
    (with_fallen (with_moment f moment) process ERROR_PROCESS_ABORTED) (omega arith)
plan_effect l f moment Tick =
    ticked_by (λ (g : Flat). f.next.plan ≤ g.next.plan) l
    (record {
      spends = λ g row is up. up;
      starts = λ g row there can up. omega (arith, up);
      runs = λ g row there can up. up;
      reboots = λ g up. up;
    }) (with_moment f moment) (omega arith)
plan_effect l f moment (Raised caller subtype) =
    raised_by (λ (g : Flat). f.next.plan ≤ g.next.plan) l subtype (record {
      starts = λ g row there can up. omega (arith, up);
      stops = λ g row action there is stops gets up. up;
    }) (with_moment f moment) caller (omega arith)
plan_effect l f moment step = omega arith

plan_after : (l : Limits) (f : Flat) (moment : ℕ) (step : Step) → (step_of l f moment step).flat.next.plan ≡
    (effect_of l (at_moment f moment step) step).flat.next.plan
plan_after l f moment step = ap (λ (x : Flat). x.next.plan) (framed l f moment step)

pub plan_rises : (l : Limits) (f : Flat) (moment : ℕ) (step : Step) → f.next.plan ≤ (step_of l f moment step).flat.next.plan
plan_rises l f moment step = (let same = plan_after l f moment step in let up = plan_effect l f moment step in omega (arith, same, up))

-- ## The plan that begins

begun_call : (l : Limits) (f : Flat) (moment caller : ℕ) (asked : Request) (append : Kept)
    → IfSome (plan_made (effect_of l (with_moment f moment) (Call caller asked append)).answer)
    (IsGiven f.next.plan (effect_of l (with_moment f moment) (Call caller asked append)).flat.next.plan)
begun_call l f moment caller (request.Start handle words) append =
    let g = with_moment f moment in
    let done = start_done g caller handle words in
    let refusal = start_refused g caller handle words in
    elim (start_verdict g caller handle words == 0) as (λ b. (start_verdict g caller handle words == 0) ≡ b
    → IfSome (plan_made (cond b (answer.Begun f.next.plan) (answer.Reply (cond b done refusal).reply)))
    (IsGiven f.next.plan (cond b done refusal).flat.next.plan)) [
      | true ↦ λ e. record {
        is_next = refl;
        below = (let held = start_held g caller handle words (eqb-true (start_verdict g caller handle words) 0 e) in
            let next = ap (λ found. (if_found (with_start caller (unwrap_or words [])) found g).next.plan) held.is in omega (arith, next));
      }
      | false ↦ λ e. tt
    ] refl
begun_call l f moment caller asked append = tt

begun_effect : (l : Limits) (f : Flat) (moment : ℕ) (step : Step) → IfSome (plan_made (effect_of l (at_moment f moment step) step).answer)
    (IsGiven f.next.plan (effect_of l (at_moment f moment step) step).flat.next.plan)
begun_effect l f moment (Call caller asked append) = begun_call l f moment caller asked append
begun_effect l f moment (Report process service status) =
    report_none (IsGiven f.next.plan (effect_of l (with_moment f moment) (Report process service status)).flat.next.plan)
    (reporting f process service) status
begun_effect l f moment (Ended process) = end_none (IsGiven f.next.plan (effect_of l (with_moment f moment) (Ended process)).flat.next.plan)
    (currents process f.services)
begun_effect l f moment LaunchTaken = launch_none (IsGiven f.next.plan f.next.plan) (first_wanted f.wanted)
begun_effect l f moment (ControlTaken process) = control_none (IsGiven f.next.plan f.next.plan) (next_order f process)
begun_effect l f moment step = tt

-- an answer that is a start's number was one before
answered : (P : ℕ → Type 0) (plan : ℕ) (code : Option ℕ) → P plan → IfSome (plan_made (answered_by plan code)) P
answered P plan None p = p
answered P plan (Some code) p = tt

finishes : (P : ℕ → Type 0) (g : Flat) (told : Answer) → IfSome (plan_made told) P → IfSome (plan_made (finished g told).answer) P
finishes P g (answer.Begun plan) p = answered P plan (code_of g.plans plan) p
finishes P g told p = p

pub begun : (l : Limits) (f : Flat) (moment : ℕ) (step : Step) → IfSome (plan_made (step_of l f moment step).answer)
    (IsGiven f.next.plan (step_of l f moment step).flat.next.plan)
begun l f moment step =
    let done = effect_of l (at_moment f moment step) step in
    subst (λ later. IfSome (plan_made (step_of l f moment step).answer) (IsGiven f.next.plan later)) (sym (plan_after l f moment step))
    (finishes (IsGiven f.next.plan done.flat.next.plan) (settled l done.flat) done.answer (begun_effect l f moment step))

-- ## The caller that joins

joins : (l : Limits) (f : Flat) (moment : ℕ) (step : Step) → IfSome (caller_made f step)
    (IsGiven f.next.caller (effect_of l (at_moment f moment step) step).flat.next.caller)
joins l f moment (Joined principal) = record { is_next = refl; below = omega arith }
joins l f moment step = tt

pub joins_after : (l : Limits) (f : Flat) (moment : ℕ) (step : Step) → IfSome (caller_made f step)
    (IsGiven f.next.caller (step_of l f moment step).flat.next.caller)
joins_after l f moment step = subst (λ later. IfSome (caller_made f step) (IsGiven f.next.caller later)) (sym (next_after l f moment step))
    (joins l f moment step)

-- who is there and wasn't has a number that wasn't given
not_given : (next number : ℕ) (before after : Bool) → (number < next → before ≡ false → after ≡ false) → before ≡ false → after ≡ true
    → next ≤ number
not_given next number before after keeps none there =
    elim (leb next number) as (λ b. leb next number ≡ b → next ≤ number) [
      | true ↦ λ e. leb-true next number e
      | false ↦ λ e. absurd (let gone = keeps (leb-false next number e) none in cc)
    ] refl

pub gives : (l : Limits) → Gives Sound AreMadeOnce l
gives l f e s ok = record {
  callers = rising l f e.0 e.1;
  processes = process_rises l f e.0 e.1;
  plans = plan_rises l f e.0 e.1;
  joined = joins_after l f e.0 e.1;
  begun = begun l f e.0 e.1;
  new_caller = λ number none there. not_given f.next.caller number _ _ (λ low. stays_out l f e.0 e.1 number low) none there;
  new_process = λ number none there. not_given f.next.process number _ _ (λ low before. ap is_some (after_effect l f e.0 e.1 number low)
      ∙ none_effect l f e.0 e.1 number low before) none there;
  new_plan = λ number none there. not_given f.next.plan number _ _ (λ low. stays_none l f e.0 e.1 number low) none there;
}
