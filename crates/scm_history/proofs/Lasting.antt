-- Facts of plans that each step keeps.
use Rattle.std.proofs.Common.{ℕ, ◌≡◌, ◌∙◌, ◌<◌, ◌==◌, Bool, true, false, cond, List, [], ◌∷◌, ◌++◌, Option, None, Some, find, map, filter}
use Rattle.std.proofs.Common.{ap, sym, refl, subst, arith, ne_eqb}
use Rattle.std.specs.Prelude.{IfSome, Result, Ok, Err, option_map}
use Rattle.std.specs.Option.{option_to_list}
use Rattle.scm_model.specs.declared.flat.DueKind.{DueKind}
use Rattle.scm_model.specs.declared.flat.DueKind.TheVariants as dues
use Rattle.scm_model.specs.declared.flat.Flat.{Flat}
use Rattle.scm_model.specs.declared.flat.Limits.{Limits}
use Rattle.scm_model.specs.declared.flat.Order.{Order}
use Rattle.scm_model.specs.declared.flat.Plan.{Plan}
use Rattle.scm_model.specs.declared.flat.Service.{Service}
use Rattle.scm_model.specs.declared.flat.Status.{Status}
use Rattle.scm_model.specs.declared.calls.Reply.{Reply}
use Rattle.scm_model.specs.declared.calls.Request.{Request}
use Rattle.scm_model.specs.declared.calls.Request.TheVariants as request
use Rattle.scm_model.specs.declared.steps.Answer.{Answer}
use Rattle.scm_model.specs.declared.steps.Answer.TheVariants as answer
use Rattle.scm_model.specs.declared.steps.Kept.{Kept}
use Rattle.scm_model.specs.declared.steps.Step.{Step}
use Rattle.scm_model.specs.declared.steps.Step.TheVariants.{Call, EndStart, Launched, LaunchFailed, Report, Ended, Tick, Raised, Gone}
use Rattle.scm_model.specs.declared.steps.Step.TheVariants.{LaunchTaken, ControlTaken}
use Rattle.scm_model.specs.Changes.{with_moment}
use Rattle.start_plan.specs.Decided.{aims_among, code_of, decided_if, decided_in, is_numbered, without_plan, without_plans_of}
use Rattle.start_plan.specs.Settle.{settle_all, settle_from, settle_plan, settled, stays, succeeded}
use Rattle.start_plan.proofs.Keeps.{Keeps, keeps_plan}
use Rattle.scm_rules.specs.Launches.{currents, currents_in, first_wanted, launch_told}
use Rattle.scm_rules.specs.Reports.{report_answer, report_told, reporting}
use Rattle.scm_rules.specs.Ends.{end_told}
use Rattle.scm_rules.specs.Steps.{call_answer, at_moment, effect_of, finished, left_by, step_of, tells_plan}
use Rattle.scm_rules.specs.Verdicts.{call_of, done_of, told_refused, verdict}
use Rattle.scm_runs.proofs.Calls.{by_verdict}
use Rattle.scm_rules.specs.Named.{plan_made}
use Rattle.scm_runs.proofs.Founds.{opened_keeps, started_keeps, notify_apart}
use Rattle.scm_rules.specs.Controls.{control_sent, next_order}
use Rattle.scm_runs.proofs.Failing.{all_failing_apart, failing_apart}
use Rattle.scm_rules.specs.Failures.{failed_by}
use Rattle.scm_model.specs.declared.codes.TheConstants.{ERROR_PROCESS_ABORTED}
use Rattle.scm_model.specs.Rows.{held_service}
use Rattle.scm_runs.proofs.Unasked.{expired, raised_by, ticked_by}
use Rattle.scm_rules.specs.Start.{with_start}
use Rattle.scm_rules.specs.Launches.{with_fallen}

-- a fact of plans that lasts where none with this number begins, and only plans of Over end and only callers of Left leave
pub record Lasts (number : ℕ) (Over Left : ℕ → Type 0) (P : List Plan → Type 0) : Type 0 where
  pub codes : (test : Plan → Bool) (code : ℕ) (plans : List Plan) → P plans → P (map (decided_if test code) plans)
  pub tidies : (plans : List Plan) → P plans → P (filter stays plans)
  pub settles : (l : Limits) (f : Flat) (plans : List Plan) → P plans → P (settle_all l f plans).plans
  pub begins : (plans : List Plan) (plan : Plan) → (plan.number == number) ≡ false → P plans → P (plans ++ plan ∷ [])
  pub ends : (plan : ℕ) (plans : List Plan) → Over plan → P plans → P (without_plan plans plan)
  pub leaves : (caller : ℕ) (plans : List Plan) → Left caller → P plans → P (without_plans_of plans caller)

-- whether a step ends only such plans, and only such callers leave in it
abbrev pub Allows : (ℕ → Type 0) → (ℕ → Type 0) → Step → Type 0
Allows Over Left (EndStart caller plan) = Over plan
Allows Over Left (Gone caller) = Left caller
Allows Over Left step = Unit {0}

-- ## Effects

decides : (number : ℕ) (Over Left : ℕ → Type 0) (P : List Plan → Type 0) → Lasts number Over Left P
    → (test : Plan → Bool) (code : ℕ) (plans : List Plan) → P plans → P (decided_in test code plans)
decides number Over Left P lasts test code plans p = lasts.tidies (map (decided_if test code) plans) (lasts.codes test code plans p)

expires : (number : ℕ) (Over Left : ℕ → Type 0) (P : List Plan → Type 0) → Lasts number Over Left P → (plans : List Plan) (kind : DueKind)
    → P plans → P (expired plans kind)
expires number Over Left P lasts plans (dues.Deadline plan) p = decides number Over Left P lasts (is_numbered plan) 1053 plans p
expires number Over Left P lasts plans kind p = p

of_done : (number : ℕ) (Over Left : ℕ → Type 0) (P : List Plan → Type 0) → Lasts number Over Left P
    → (l : Limits) (f : Flat) (caller : ℕ) (asked : Request) → (f.next.plan == number) ≡ false → P f.plans
    → P (done_of l f caller asked).flat.plans
of_done number Over Left P lasts l f caller (request.OpenService handle name access) other p =
    opened_keeps (λ (g : Flat). P g.plans) f caller name access p (λ row is. p)
of_done number Over Left P lasts l f caller (request.Start handle words) other p =
    started_keeps (λ (g : Flat). P g.plans) f caller handle words p (λ row is. lasts.begins f.plans _ other p)
of_done number Over Left P lasts l f caller (request.SetStatus handle status) other p =
    failing_apart (λ (g : Flat). P g.plans) (failed_by status (held_service f caller handle)) _ p
of_done number Over Left P lasts l f caller (request.Notify handle mask) other p =
    notify_apart (λ (g : Flat). P g.plans) f caller handle mask (λ rows next. p)
of_done number Over Left P lasts l f caller asked other p = p

of_call : (number : ℕ) (Over Left : ℕ → Type 0) (P : List Plan → Type 0) → Lasts number Over Left P
    → (l : Limits) (f : Flat) (caller : ℕ) (asked : Request) (append : Kept) → (f.next.plan == number) ≡ false → P f.plans
    → P (call_of l f caller asked append).flat.plans
of_call number Over Left P lasts l f caller asked append other p =
    by_verdict (λ r. P r.flat.plans) (verdict l f caller asked append) (told_refused f caller asked (verdict l f caller asked append)) f
    (done_of l f caller asked)
    (λ e. of_done number Over Left P lasts l f caller asked other p) (λ e. p)

later : (number next : ℕ) → number < next → (next == number) ≡ false
later number next low = ne_eqb next number (λ e. absurd (omega (arith, e, low)))

-- it lasts, and the number was given
abbrev LastsIn : ℕ → (List Plan → Type 0) → Flat → Type 0
LastsIn number P f = (number < f.next.plan) × P f.plans

-- a start that no caller asks for has another number
start_lasts : (number : ℕ) (Over Left : ℕ → Type 0) (P : List Plan → Type 0) → Lasts number Over Left P → (g : Flat) (row : Service)
    → LastsIn number P g → LastsIn number P (with_start 0 [] row g)
start_lasts number Over Left P lasts g row q = (
  (let low = q.0 in omega (arith, low)),
  lasts.begins g.plans _ (later number g.next.plan q.0) q.1,
)

of_effect : (number : ℕ) (Over Left : ℕ → Type 0) (P : List Plan → Type 0) → Lasts number Over Left P
    → (l : Limits) (f : Flat) (moment : ℕ) (step : Step) → number < f.next.plan → Allows Over Left step → P f.plans
    → P (effect_of l (at_moment f moment step) step).flat.plans
of_effect number Over Left P lasts l f moment (Call caller asked append) low allowed p =
    of_call number Over Left P lasts l (with_moment f moment) caller asked append (later number f.next.plan low) p
of_effect number Over Left P lasts l f moment (EndStart caller plan) low allowed p = lasts.ends plan f.plans allowed p
of_effect number Over Left P lasts l f moment (Launched process pid) low allowed p =
    decides number Over Left P lasts (aims_among (currents_in process f.services)) 0 f.plans p
of_effect number Over Left P lasts l f moment (LaunchFailed process code) low allowed p =
    decides number Over Left P lasts (aims_among (currents_in process f.services)) code f.plans p
of_effect number Over Left P lasts l f moment (Report process service status) low allowed p =
    failing_apart (λ (g : Flat). P g.plans) (failed_by status (reporting f process service)) _ p
of_effect number Over Left P lasts l f moment (Ended process) low allowed p =
    all_failing_apart (λ (g : Flat). P g.plans) (currents process f.services)
    (with_fallen (with_moment f moment) process ERROR_PROCESS_ABORTED) p
of_effect number Over Left P lasts l f moment Tick low allowed p = (ticked_by (LastsIn number P) l (record {
  spends = λ g row is q. (q.0, expires number Over Left P lasts g.plans row.kind q.1);
  starts = λ g row there can q. start_lasts number Over Left P lasts g row q;
  runs = λ g row there can q. q;
  reboots = λ g q. q;
}) (with_moment f moment) (low, p)).1
of_effect number Over Left P lasts l f moment (Raised caller subtype) low allowed p =
    (raised_by (LastsIn number P) l subtype (record {
      starts = λ g row there can q. start_lasts number Over Left P lasts g row q;
      stops = λ g row action there is stops gets q. q;
    }) (with_moment f moment) caller (low, p)).1
of_effect number Over Left P lasts l f moment (Gone caller) low allowed p = lasts.leaves caller f.plans allowed p
of_effect number Over Left P lasts l f moment step low allowed p = p

-- ## Starts that end in their call

answers_next : (b : Bool) (plan : ℕ) (told : Reply) → IfSome (plan_made (call_answer b plan told)) (λ number. number ≡ plan)
answers_next true plan told = refl
answers_next false plan told = tt

-- neither a report nor an end begins a plan
answer_begins : (result : Result Status ℕ) → plan_made (report_answer result) ≡ None
answer_begins (Ok status) = refl
answer_begins (Err code) = refl

report_begins : (found : Option Service) (report : Status) → plan_made (report_told found report) ≡ None
report_begins None report = refl
report_begins (Some row) report = answer_begins _

pub report_none : (P : ℕ → Type 0) (found : Option Service) (report : Status) → IfSome (plan_made (report_told found report)) P
report_none P found report = subst (λ o. IfSome o P) (sym (report_begins found report)) tt

pub end_none : (P : ℕ → Type 0) (falling : List Service) → IfSome (plan_made (end_told falling)) P
end_none P [] = tt
end_none P (row ∷ rows) = tt

pub launch_none : (P : ℕ → Type 0) (found : Option ℕ) → IfSome (plan_made (launch_told found)) P
launch_none P None = tt
launch_none P (Some process) = tt

pub control_none : (P : ℕ → Type 0) (found : Option Order) → IfSome (plan_made (control_sent found)) P
control_none P None = tt
control_none P (Some code) = tt

-- a plan that begins has the next number
pub begins_next : (l : Limits) (f : Flat) (moment : ℕ) (step : Step) → IfSome
    (plan_made (effect_of l (at_moment f moment step) step).answer) (λ number. number ≡ f.next.plan)
begins_next l f moment (Call caller asked append) =
    let g = with_moment f moment in
    answers_next (tells_plan asked (verdict l g caller asked append)) f.next.plan (call_of l g caller asked append).reply
begins_next l f moment (Report process service status) = report_none (λ number. number ≡ f.next.plan) (reporting f process service) status
begins_next l f moment (Ended process) = end_none (λ number. number ≡ f.next.plan) (currents process f.services)
begins_next l f moment LaunchTaken = launch_none (λ number. number ≡ f.next.plan) (first_wanted f.wanted)
begins_next l f moment (ControlTaken process) = control_none (λ number. number ≡ f.next.plan) (next_order f process)
begins_next l f moment step = tt

left : (number : ℕ) (Over Left : ℕ → Type 0) (P : List Plan → Type 0) → Lasts number Over Left P → (g : Flat) (plan : ℕ) (code : Option ℕ)
    → Over plan → P g.plans → P (left_by g plan code).plans
left number Over Left P lasts g plan None ended p = p
left number Over Left P lasts g plan (Some code) ended p = lasts.ends plan g.plans ended p

finishes : (number : ℕ) (Over Left : ℕ → Type 0) (P : List Plan → Type 0) → Lasts number Over Left P → (g : Flat) (told : Answer)
    → IfSome (plan_made told) Over → P g.plans → P (finished g told).flat.plans
finishes number Over Left P lasts g (answer.Begun plan) ended p = left number Over Left P lasts g plan (code_of g.plans plan) ended p
finishes number Over Left P lasts g told ended p = p

next_ended : (Over : ℕ → Type 0) (next : ℕ) (made : Option ℕ) → IfSome made (λ number. number ≡ next) → Over next → IfSome made Over
next_ended Over next None is ended = tt
next_ended Over next (Some plan) is ended = subst Over (sym is) ended

-- ## Steps

pub of_step : (number : ℕ) (Over Left : ℕ → Type 0) (P : List Plan → Type 0) → Lasts number Over Left P
    → (l : Limits) (f : Flat) (moment : ℕ) (step : Step) → number < f.next.plan → Over f.next.plan → Allows Over Left step
    → P f.plans → P (step_of l f moment step).flat.plans
of_step number Over Left P lasts l f moment step low last allowed p =
    let done = effect_of l (at_moment f moment step) step in
    let effect = of_effect number Over Left P lasts l f moment step low allowed p in
    finishes number Over Left P lasts (settled l done.flat) done.answer
    (next_ended Over f.next.plan (plan_made done.answer) (begins_next l f moment step) last)
    (lasts.tidies (settle_all l done.flat done.flat.plans).plans (lasts.settles l done.flat done.flat.plans effect))

-- ## What settling leaves of a plan

-- number, caller and target are the same
pub record IsSame (before after : Plan) : Type 0 where
  pub number : after.number ≡ before.number
  pub caller : after.caller ≡ before.caller
  pub target : after.target ≡ before.target

keeps_same : (l : Limits) (plan : Plan) → Keeps l (λ f. Unit {0}) (IsSame plan)
keeps_same l plan = record {
  enters = λ f row service words entry p. tt;
  tries = λ f row service entry same. record { number = same.number; caller = same.caller; target = same.target };
  drops = λ row service rest code same. record { number = same.number; caller = same.caller; target = same.target };
  meets = λ row services same. record { number = same.number; caller = same.caller; target = same.target };
}

settles_one : (l : Limits) (f : Flat) (plan : Plan) → IsSame plan (settle_plan l f plan).plan
settles_one l f plan =
    (keeps_plan l (λ f. Unit {0}) (IsSame plan) (keeps_same l plan) f plan tt (record { number = refl; caller = refl; target = refl })).plan

-- the caller and the target of a plan
abbrev pub sides : Plan → ℕ × ℕ
sides plan = (plan.caller, plan.target)

abbrev pub sides_of : List Plan → ℕ → Option (ℕ × ℕ)
sides_of plans number = option_map sides (find (is_numbered number) plans)

pub coded_sides : (test : Plan → Bool) (code : ℕ) (plans : List Plan) (number : ℕ)
    → sides_of (map (decided_if test code) plans) number ≡ sides_of plans number
coded_sides test code [] number = refl
coded_sides test code (plan ∷ plans) number =
    let rest = coded_sides test code plans number in
    elim (plan.number == number) as (λ b. option_map sides (cond b (Some (decided_if test code plan))
    (find (is_numbered number) (map (decided_if test code) plans))) ≡ option_map sides
    (cond b (Some plan) (find (is_numbered number) plans)))
    [ true ↦ refl | false ↦ rest ]

from_sides : (l : Limits) (f : Flat) (hosted : List ℕ) (plans : List Plan) (number : ℕ)
    → sides_of (settle_from l f hosted plans).plans number ≡ sides_of plans number
from_sides l f hosted [] number = refl
from_sides l f hosted (plan ∷ plans) number =
    let turn = settle_plan l f (succeeded hosted plan) in
    let after = hosted ++ option_to_list turn.hosted in
    let others = (settle_from l turn.flat after plans).plans in
    let same = settles_one l f (succeeded hosted plan) in
    ap (λ n. option_map sides (cond (n == number) (Some turn.plan) (find (is_numbered number) others))) same.number
    ∙ elim (plan.number == number) as (λ b. option_map sides (cond b (Some turn.plan) (find (is_numbered number) others))
    ≡ option_map sides (cond b (Some plan) (find (is_numbered number) plans))) [
      | true ↦ ap (λ c. Some (c, turn.plan.target)) same.caller ∙ ap (λ t. Some (plan.caller, t)) same.target
      | false ↦ from_sides l turn.flat after plans number
    ]

pub settled_sides : (l : Limits) (f : Flat) (plans : List Plan) (number : ℕ)
    → sides_of (settle_all l f plans).plans number ≡ sides_of plans number
settled_sides l f plans number =
    let end = settle_from l f [] plans in
    coded_sides (aims_among end.hosted) 0 end.plans number ∙ from_sides l f [] plans number
