-- The law of plans.
use Rattle.std.proofs.Common.{ℕ, ◌≡◌, ◌<◌, ◌+◌, ◌∙◌, Bool, not, List, [], ◌∷◌, ◌++◌, Option, None, Some, map, ap, sym, refl, arith}
use Rattle.std.proofs.Common.{append_assoc}
use Rattle.std.specs.List.{AllByRecursion}
use Rattle.std.proofs.lemmas.List.{append-nil}
use Rattle.std.proofs.lemmas.List.Elements.{All-from_recursion, All-weaker}
use Rattle.scm_model.specs.declared.flat.DueKind.{DueKind}
use Rattle.scm_model.specs.declared.flat.DueKind.TheVariants as dues
use Rattle.scm_model.specs.declared.flat.Flat.{Flat}
use Rattle.scm_model.specs.declared.flat.Limits.{Limits}
use Rattle.scm_model.specs.declared.flat.Plan.{Plan}
use Rattle.scm_model.specs.declared.calls.Request.{Request}
use Rattle.scm_model.specs.declared.calls.Request.TheVariants as request
use Rattle.scm_model.specs.declared.steps.Answer.{Answer}
use Rattle.scm_model.specs.declared.steps.Answer.TheVariants as answer
use Rattle.scm_model.specs.declared.steps.Kept.{Kept}
use Rattle.scm_model.specs.declared.steps.Step.{Step}
use Rattle.scm_model.specs.declared.steps.Step.TheVariants.{Call, EndStart, Launched, LaunchFailed, Report, Ended, Tick, Raised, Gone}
use Rattle.scm_model.specs.Changes.{with_moment}
use Rattle.start_plan.specs.Decided.{aims_among, code_of, decided_if, decided_in, is_callers, is_numbered}
use Rattle.start_plan.specs.Planned.{IsRising, plan_numbers}
use Rattle.start_plan.specs.Settle.{settle_all, settled, stays, succeeded, with_tried, dropped}
use Rattle.start_plan.proofs.Keeps.{Keeps, all_filter, keeps_all}
use Rattle.scm_rules.specs.Launches.{currents, currents_in}
use Rattle.scm_rules.specs.Reports.{reporting}
use Rattle.scm_rules.specs.Steps.{at_moment, effect_of, finished, left_by, step_of}
use Rattle.scm_rules.specs.Verdicts.{call_of, done_of, told_refused, verdict}
use Rattle.scm_runs.specs.Plans.{GoesOn, LawOfPlans, WentOn}
use Rattle.scm_runs.proofs.Along.{Gives}
use Rattle.scm_runs.proofs.Calls.{by_verdict, keeps}
use Rattle.scm_runs.proofs.Plans.{IsPlan, all_more, all_weaker, tried_once}
use Rattle.scm_runs.proofs.Sound.{Sound, moved}
use Rattle.scm_runs.proofs.Founds.{started_keeps, opened_keeps, notify_apart}
use Rattle.scm_rules.specs.Failures.{failed_by}
use Rattle.scm_rules.specs.Start.{with_start}
use Rattle.scm_model.specs.Rows.{held_service}
use Rattle.scm_model.specs.declared.flat.Service.{Service}
use Rattle.scm_runs.proofs.Failing.{all_failing_apart, failing_apart}
use Rattle.scm_runs.proofs.Unasked.{expired, raised_by, ticked_by}

-- the plan with the same number before, if there was one, goes on in this one
abbrev pub Went : List Plan → Plan → Type 0
Went befores after = AllByRecursion (λ (before : Plan). before.number ≡ after.number → GoesOn before after) befores

abbrev pub AllWent : List Plan → List Plan → Type 0
AllWent befores afters = AllByRecursion (Went befores) afters

-- ## The same plans

goes_on : (plan : Plan) → GoesOn plan plan
goes_on plan = record { caller = refl; target = refl; since = []; tried = sym (append-nil plan.tried) }

-- earlier plans have smaller numbers
went_above : (befores : List Plan) (after : Plan) → AllByRecursion (λ (before : Plan). before.number < after.number) befores
    → Went befores after
went_above [] after above = tt
went_above (before ∷ befores) after above = ((λ e. absurd (let lt = above.0 in omega (arith, lt, e))), went_above befores after above.1)

-- later plans have greater numbers
went_below : (n : ℕ) (befores : List Plan) (after : Plan) → AllByRecursion (λ later. n < later) (plan_numbers befores) → after.number ≡ n
    → Went befores after
went_below n [] after below e = tt
went_below n (before ∷ befores) after below e = (
  (λ g. absurd (let lt = below.0 in omega (arith, lt, e, g))),
  went_below n befores after below.1 e,
)

with_one : (before : Plan) (befores afters : List Plan) → AllByRecursion (λ later. before.number < later) (plan_numbers afters)
    → AllWent befores afters → AllWent (before ∷ befores) afters
with_one before befores [] above all = tt
with_one before befores (after ∷ afters) above all =
    (((λ e. absurd (let lt = above.0 in omega (arith, lt, e))), all.0), with_one before befores afters above.1 all.1)

all_same : (plans : List Plan) → IsRising (plan_numbers plans) → AllWent plans plans
all_same [] rising = tt
all_same (plan ∷ plans) rising =
    (((λ e. goes_on plan), went_below plan.number plans plan rising.0 refl), with_one plan plans plans rising.0 (all_same plans rising.1))

-- ## Plans decided, gone, and new

-- a plan with another code
pub coded : (befores : List Plan) (plan : Plan) (code : Option ℕ) → Went befores plan → Went befores (record plan { code = code })
coded [] plan code went = tt
coded (before ∷ befores) plan code went = (
  (λ e. (let on = went.0 e in record { caller = on.caller; target = on.target; since = on.since; tried = on.tried })),
  coded befores plan code went.1,
)

all_coded : (befores : List Plan) (test : Plan → Bool) (code : ℕ) (plans : List Plan) → AllWent befores plans
    → AllWent befores (map (decided_if test code) plans)
all_coded befores test code [] all = tt
all_coded befores test code (plan ∷ plans) all = (coded befores plan _ all.0, all_coded befores test code plans all.1)

decided : (befores : List Plan) (test : Plan → Bool) (code : ℕ) (plans : List Plan) → AllWent befores plans
    → AllWent befores (decided_in test code plans)
decided befores test code plans all = all_filter (Went befores) stays (map (decided_if test code) plans)
    (all_coded befores test code plans all)

has_expired : (befores plans : List Plan) (kind : DueKind) → AllWent befores plans → AllWent befores (expired plans kind)
has_expired befores plans (dues.Deadline plan) all = decided befores (is_numbered plan) 1053 plans all
has_expired befores plans kind all = all

-- ## Effects

of_done : (l : Limits) (f : Flat) (caller : ℕ) (asked : Request) → Sound f → AllWent f.plans (done_of l f caller asked).flat.plans
of_done l f caller (request.OpenService handle name access) s =
    opened_keeps (λ (g : Flat). AllWent f.plans g.plans) f caller name access (all_same f.plans s.plans.rising)
    (λ row is. all_same f.plans s.plans.rising)
of_done l f caller (request.Start handle words) s =
    started_keeps (λ (g : Flat). AllWent f.plans g.plans) f caller handle words (all_same f.plans s.plans.rising)
    (λ row is. all_more (Went f.plans) f.plans _ (all_same f.plans s.plans.rising)
    (went_above f.plans _ (all_weaker (IsPlan f.next.plan f.next.service f.callers) (λ (plan : Plan). plan.number < f.next.plan)
    (λ plan is. is.below) f.plans s.plans.each)))
of_done l f caller (request.SetStatus handle status) s = failing_apart (λ (g : Flat). AllWent f.plans g.plans)
    (failed_by status (held_service f caller handle)) _ (all_same f.plans s.plans.rising)
of_done l f caller (request.Notify handle mask) s = notify_apart (λ (g : Flat). AllWent f.plans g.plans) f caller handle mask
    (λ rows next. all_same f.plans s.plans.rising)
of_done l f caller asked s = all_same f.plans s.plans.rising

of_call : (l : Limits) (f : Flat) (moment caller : ℕ) (asked : Request) (append : Kept) → Sound (with_moment f moment)
    → AllWent f.plans (call_of l (with_moment f moment) caller asked append).flat.plans
of_call l f moment caller asked append s =
    let g = with_moment f moment in
    by_verdict (λ r. AllWent f.plans r.flat.plans) (verdict l g caller asked append)
    (told_refused g caller asked (verdict l g caller asked append)) g (done_of l g caller asked)
    (λ e. of_done l g caller asked s) (λ e. all_same f.plans s.plans.rising)

-- all go on, with numbers below the next one
record GoesFrom (f g : Flat) : Type 0 where
  plans : AllWent f.plans g.plans
  up : AllByRecursion (λ (plan : Plan). plan.number < g.next.plan) f.plans

all_go : (f : Flat) (moment : ℕ) → Sound f → GoesFrom f (with_moment f moment)
all_go f moment s = record {
  plans = all_same f.plans s.plans.rising;
  up = all_weaker (IsPlan f.next.plan f.next.service f.callers) (λ (plan : Plan). plan.number < f.next.plan)
      (λ plan is. is.below) f.plans s.plans.each;
}

started_goes : (f g : Flat) (row : Service) → GoesFrom f g → GoesFrom f (with_start 0 [] row g)
started_goes f g row goes = record {
  plans = all_more (Went f.plans) g.plans _ goes.plans (went_above f.plans _ goes.up);
  up = all_weaker (λ (plan : Plan). plan.number < g.next.plan) (λ (plan : Plan). plan.number < g.next.plan + 1)
      (λ plan below. omega (arith, below)) f.plans goes.up;
}

pub of_effect : (l : Limits) (f : Flat) (moment : ℕ) (step : Step) → Sound f
    → AllWent f.plans (effect_of l (at_moment f moment step) step).flat.plans
of_effect l f moment (Call caller asked append) s = of_call l f moment caller asked append (moved f moment s)
of_effect l f moment (EndStart caller plan) s = all_filter (Went f.plans) (λ (row : Plan). not (is_numbered plan row)) f.plans
    (all_same f.plans s.plans.rising)
of_effect l f moment (Launched process pid) s = decided f.plans (aims_among (currents_in process f.services)) 0 f.plans
    (all_same f.plans s.plans.rising)
of_effect l f moment (LaunchFailed process code) s = decided f.plans (aims_among (currents_in process f.services)) code f.plans
    (all_same f.plans s.plans.rising)
of_effect l f moment (Report process service status) s =
    failing_apart (λ (g : Flat). AllWent f.plans g.plans) (failed_by status (reporting (with_moment f moment) process service)) _
    (all_same f.plans s.plans.rising)
of_effect l f moment (Ended process) s =
    all_failing_apart (λ (g : Flat). AllWent f.plans g.plans) (currents process f.services) _ (all_same f.plans s.plans.rising)
of_effect l f moment Tick s = (ticked_by (GoesFrom f) l (record {
  spends = λ g row is goes. record { plans = has_expired f.plans g.plans row.kind goes.plans; up = goes.up };
  starts = λ g row there can goes. started_goes f g row goes;
  runs = λ g row there can goes. record { plans = goes.plans; up = goes.up };
  reboots = λ g goes. record { plans = goes.plans; up = goes.up };
}) (with_moment f moment) (all_go f moment s)).plans
of_effect l f moment (Raised caller subtype) s = (raised_by (GoesFrom f) l subtype (record {
  starts = λ g row there can goes. started_goes f g row goes;
  stops = λ g row action there is stops gets goes. record { plans = goes.plans; up = goes.up };
}) (with_moment f moment) caller (all_go f moment s)).plans
of_effect l f moment (Gone caller) s = all_filter (Went f.plans) (λ (row : Plan). not (is_callers caller row)) f.plans
    (all_same f.plans s.plans.rising)
of_effect l f moment step s = all_same f.plans s.plans.rising

-- ## Settling

tries : (befores : List Plan) (plan : Plan) (service : ℕ) → Went befores plan → Went befores (with_tried plan service)
tries [] plan service went = tt
tries (before ∷ befores) plan service went = (
  (λ e. (let on = went.0 e in record {
    caller = on.caller;
    target = on.target;
    since = on.since ++ service ∷ [];
    tried = ap (λ ns. ns ++ service ∷ []) on.tried ∙ append_assoc before.tried on.since (service ∷ []);
  })),
  tries befores plan service went.1,
)

drops : (befores : List Plan) (plan : Plan) (service : ℕ) (rest : List ℕ) (code : ℕ) → Went befores plan
    → Went befores (dropped plan service rest code)
drops [] plan service rest code went = tt
drops (before ∷ befores) plan service rest code went = (
  (λ e. (let on = went.0 e in record { caller = on.caller; target = on.target; since = on.since; tried = on.tried })),
  drops befores plan service rest code went.1,
)

keeps_going : (l : Limits) (befores : List Plan) → Keeps l (λ f. Unit {0}) (Went befores)
keeps_going l befores = record {
  enters = λ f plan service words entry p. tt;
  tries = λ f plan service entry went. tries befores plan service went;
  drops = λ plan service rest code went. drops befores plan service rest code went;
  meets = λ plan services went. coded befores plan (succeeded services plan).code went;
}

settles : (l : Limits) (befores : List Plan) (f : Flat) → AllWent befores f.plans → AllWent befores (settled l f).plans
settles l befores f all =
    all_filter (Went befores) stays (settle_all l f f.plans).plans (keeps_all l (λ f. Unit {0}) (Went befores)
    (keeps_going l befores) f f.plans tt all).plans

-- ## Steps

left : (befores : List Plan) (g : Flat) (plan : ℕ) (code : Option ℕ) → AllWent befores g.plans → AllWent befores (left_by g plan code).plans
left befores g plan None all = all
left befores g plan (Some code) all = all_filter (Went befores) (λ (row : Plan). not (is_numbered plan row)) g.plans all

finishes : (befores : List Plan) (g : Flat) (told : Answer) → AllWent befores g.plans → AllWent befores (finished g told).flat.plans
finishes befores g (answer.Begun plan) all = left befores g plan (code_of g.plans plan) all
finishes befores g told all = all

of_step : (l : Limits) (f : Flat) (moment : ℕ) (step : Step) → Sound f → AllWent f.plans (step_of l f moment step).flat.plans
of_step l f moment step s =
    let done = effect_of l (at_moment f moment step) step in
    finishes f.plans (settled l done.flat) done.answer (settles l f.plans done.flat (of_effect l f moment step s))

pub gives : (l : Limits) → Gives Sound (LawOfPlans l) l
gives l f e s ok =
    let after = (step_of l f e.0 e.1).flat in
    let sound = keeps l f e s ok in
    record {
      acyclic = sound.services.acyclic;
      tried = tried_once after.next.plan after.next.service after.callers after.plans sound.plans;
      same = All-weaker (Went f.plans) (WentOn f.plans) (λ plan went. All-from_recursion (λ (before : Plan). before.number ≡ plan.number
          → GoesOn before plan) f.plans went) after.plans
          (All-from_recursion (Went f.plans) after.plans (of_step l f e.0 e.1 s));
    }
