-- Whose plan begins in a start that waits.
use Rattle.std.proofs.Common.{ℕ, ◌≡◌, ◌<◌, ◌==◌, true, false, cond, List, [], ◌∷◌, ◌++◌, Option, None, Some, Result, Ok, Err, find, ap}
use Rattle.std.proofs.Common.{refl, arith, eq-eqb, ne_eqb, eqb-true}
use Rattle.std.specs.Prelude.{IfSome, IsTrue, option_map, unwrap_or}
use Rattle.std.specs.List.{AllByRecursion}
use Rattle.std.proofs.lemmas.Bool.{and_parts}
use Rattle.scm_model.specs.declared.flat.Flat.{Flat}
use Rattle.scm_model.specs.declared.flat.Limits.{Limits}
use Rattle.scm_model.specs.declared.flat.Plan.{Plan}
use Rattle.scm_model.specs.declared.flat.Service.{Service}
use Rattle.scm_model.specs.declared.flat.Status.{Status}
use Rattle.scm_model.specs.declared.calls.Request.TheVariants as request
use Rattle.scm_model.specs.declared.steps.Answer.TheVariants as answer
use Rattle.scm_model.specs.declared.steps.Kept.{Kept}
use Rattle.scm_model.specs.declared.steps.Step.{Step}
use Rattle.scm_model.specs.declared.steps.Step.TheVariants.{Call, Report, Ended, LaunchTaken, ControlTaken}
use Rattle.scm_model.specs.Changes.{with_moment}
use Rattle.scm_model.specs.Purge.{purged}
use Rattle.scm_model.specs.Rows.{is_caller, held_service}
use Rattle.start_plan.specs.Decided.{code_of, is_numbered}
use Rattle.start_plan.specs.Settle.{settle_all, settled}
use Rattle.status_machine.specs.Moves.{take_report}
use Rattle.scm_rules.specs.Ends.{end_told}
use Rattle.scm_rules.specs.Named.{plan_made}
use Rattle.scm_rules.specs.Needs.{start_order}
use Rattle.scm_rules.specs.Reports.{report_answer, report_told, reporting}
use Rattle.scm_rules.specs.Start.{new_plan, start_done, start_verdict, with_plan, with_start}
use Rattle.scm_rules.specs.Steps.{answered_by, at_moment, effect_of, finished, left_by, may, step_of}
use Rattle.scm_runs.proofs.Along.{Gives}
use Rattle.scm_runs.proofs.Handles.{not_nobody}
use Rattle.scm_runs.proofs.Plans.{IsPlan, all_weaker}
use Rattle.scm_runs.proofs.Sound.{Sound}
use Rattle.scm_history.specs.Begun.{BeginsOwn, LawOfBegun, IsPlanFor}
use Rattle.scm_history.specs.Plans.{IsPlanOf}
use Rattle.scm_history.proofs.Lasting.{sides}
use Rattle.scm_history.proofs.Plans.{IsThere, caller_in, lasts, target_in}
use Rattle.scm_history.proofs.Refusals.{start_refused}
use Rattle.scm_model.specs.Found.{if_found}
use Rattle.scm_runs.proofs.Founds.{control_begins, launch_begins}
use Rattle.scm_runs.proofs.Calls.{start_held}
use Rattle.scm_rules.specs.Launches.{currents, first_wanted}
use Rattle.scm_rules.specs.Controls.{next_order}
use Rattle.scm_model.specs.declared.steps.Answer.{Answer}

-- ## The plan that begins

-- a plan is found behind those with lower numbers
found_new : (number : ℕ) (plans : List Plan) (plan : Plan) → AllByRecursion (λ (row : Plan). row.number < number) plans
    → plan.number ≡ number → find (is_numbered number) (plans ++ plan ∷ []) ≡ Some plan
found_new number [] plan low is = rw (eq-eqb plan.number number is) refl
found_new number (row ∷ plans) plan low is = rw (ne_eqb row.number number
    (λ same. absurd (let first = low.0 in omega (arith, same, first)))) (found_new number plans plan low.1 is)

begun_there : (f : Flat) (plan : Plan) → Sound f → plan.number ≡ f.next.plan
    → IsThere f.next.plan plan.caller plan.target (f.plans ++ plan ∷ [])
begun_there f plan s is =
    ap (option_map sides) (found_new f.next.plan f.plans plan
    (all_weaker (IsPlan f.next.plan f.next.service f.callers) (λ (row : Plan). row.number < f.next.plan)
    (λ row known. known.below) f.plans s.plans.each) is)

-- it stays where it is undecided, and else its start is answered
waits_there : (g : Flat) (number caller target : ℕ) (code : Option ℕ) → IsThere number caller target g.plans
    → IfSome (plan_made (answered_by number code)) (λ (n : ℕ). IsPlanOf (purged (left_by g number code)) n caller target)
waits_there g number caller target None there = record { callers = caller_in _ caller target there; aims = target_in _ caller target there }
waits_there g number caller target (Some code) there = tt

-- settling leaves it
settled_there : (l : Limits) (g : Flat) (number caller target : ℕ) → (caller == 0) ≡ false → IsThere number caller target g.plans
    → IsThere number caller target (settled l g).plans
settled_there l g number caller target somebody there =
    (lasts number caller target somebody).tidies (settle_all l g g.plans).plans
    ((lasts number caller target somebody).settles l g g.plans there)

of_held : (l : Limits) (f : Flat) (moment caller handle : ℕ) (words : Option (List (List ℕ))) → Sound f → is_caller f caller ≡ true
    → (found : Option Service) {one : Service} → held_service f caller handle ≡ found → held_service f caller handle ≡ Some one
    → IfSome (plan_made (answered_by f.next.plan (code_of (settled l (if_found (with_start caller (unwrap_or words [])) found
    (with_moment f moment))).plans f.next.plan)))
    (λ (n : ℕ). IsPlanFor (purged (left_by (settled l (if_found (with_start caller (unwrap_or words [])) found (with_moment f moment)))
    f.next.plan
    (code_of (settled l (if_found (with_start caller (unwrap_or words [])) found (with_moment f moment))).plans f.next.plan))) n caller
    found)
of_held l f moment caller handle words s there None e is = absurd cc
of_held l f moment caller handle words s there (Some row) e is =
    let g = with_moment f moment in
    let plan = new_plan g caller row.number (start_order g row.number) (unwrap_or words []) in
    let h = with_plan g plan in
    waits_there (settled l h) f.next.plan caller row.number (code_of (settled l h).plans f.next.plan)
    (settled_there l h f.next.plan caller row.number (not_nobody caller f.callers s.handles.callers.positive there)
    (begun_there f plan s refl))

of_start : (l : Limits) (f : Flat) (moment caller handle : ℕ) (words : Option (List (List ℕ))) (append : Kept) → Sound f
    → is_caller f caller ≡ true
    → BeginsOwn f (Call caller (request.Start handle words) append) (step_of l f moment
    (Call caller (request.Start handle words) append)).answer (step_of l f moment
    (Call caller (request.Start handle words) append)).flat
of_start l f moment caller handle words append s there =
    let g = with_moment f moment in
    let number = f.next.plan in
    let done = start_done g caller handle words in
    let refusal = start_refused g caller handle words in
    elim (start_verdict g caller handle words == 0) as (λ b. (start_verdict g caller handle words == 0) ≡ b
    → IfSome (plan_made (finished (settled l (cond b done refusal).flat)
    (cond b (answer.Begun number) (answer.Reply (cond b done refusal).reply))).answer)
    (λ (n : ℕ). IsPlanFor (purged (finished (settled l (cond b done refusal).flat)
    (cond b (answer.Begun number) (answer.Reply (cond b done refusal).reply))).flat) n caller (held_service f caller handle))) [
      | true ↦ λ e. of_held l f moment caller handle words s there (held_service f caller handle) refl
          (start_held g caller handle words (eqb-true (start_verdict g caller handle words) 0 e)).is
      | false ↦ λ e. tt
    ] refl

-- ## Steps

-- neither a report nor an end begins a plan
report_plain : (g : Flat) (taken : Result Status ℕ) → plan_made (finished g (report_answer taken)).answer ≡ None
report_plain g (Ok status) = refl
report_plain g (Err code) = refl

report_begins : (g : Flat) (found : Option Service) (report : Status) → plan_made (finished g (report_told found report)).answer ≡ None
report_begins g None report = refl
report_begins g (Some row) report = report_plain g (take_report row.status report)

end_begins : (g : Flat) (falling : List Service) → plan_made (finished g (end_told falling)).answer ≡ None
end_begins g [] = refl
end_begins g (row ∷ rows) = refl

-- an answer that isn't of a plan that begins stays none
no_plan : (g : Flat) (told : Answer) → plan_made told ≡ None → plan_made (finished g told).answer ≡ None
no_plan g (answer.Begun plan) e = absurd cc
no_plan g told e = e

of_step : (l : Limits) (f : Flat) (moment : ℕ) (step : Step) → Sound f → IsTrue (may l f moment step)
    → BeginsOwn f step (step_of l f moment step).answer (step_of l f moment step).flat
of_step l f moment (Call caller (request.Start handle words) append) s ok =
    of_start l f moment caller handle words append s (and_parts _ _ (and_parts _ _ ok).0).0
of_step l f moment (Report process service status) s ok =
    report_begins (settled l (effect_of l (at_moment f moment (Report process service status)) (Report process service status)).flat)
    (reporting f process service) status
of_step l f moment (Ended process) s ok = end_begins (settled l (effect_of l (at_moment f moment (Ended process)) (Ended process)).flat)
    (currents process f.services)
of_step l f moment LaunchTaken s ok = no_plan (settled l (effect_of l (at_moment f moment LaunchTaken) LaunchTaken).flat) _
    (launch_begins (first_wanted f.wanted))
of_step l f moment (ControlTaken process) s ok =
    no_plan (settled l (effect_of l (at_moment f moment (ControlTaken process)) (ControlTaken process)).flat) _
    (control_begins (next_order f process))
of_step l f moment step s ok = refl

pub gives : (l : Limits) → Gives Sound LawOfBegun l
gives l f e s ok = of_step l f e.0 e.1 s ok
