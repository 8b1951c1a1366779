-- A plan leaves with its EndStart or with its caller.
use Rattle.std.proofs.Common.{ℕ, ◌≡◌, ◌∙◌, ◌<◌, ◌==◌, ◌&&◌, Bool, true, false, not, List, Option, None, Some, ap, sym, refl, subst, arith}
use Rattle.std.proofs.Common.{eqb-true, ne_eqb}
use Rattle.std.specs.Prelude.{is_some, option_map}
use Rattle.std.proofs.lemmas.List.Elements.{All-from_recursion, All-weaker}
use Rattle.scm_model.specs.declared.flat.Flat.{Flat}
use Rattle.scm_model.specs.declared.flat.Limits.{Limits}
use Rattle.scm_model.specs.declared.flat.Plan.{Plan}
use Rattle.scm_model.specs.declared.steps.Step.{Step}
use Rattle.scm_model.specs.declared.steps.Step.TheVariants.{EndStart, Gone}
use Rattle.start_plan.specs.Decided.{is_callers, is_numbered, plan_of}
use Rattle.start_plan.specs.Settle.{stays}
use Rattle.scm_runs.proofs.Along.{Gives}
use Rattle.scm_runs.proofs.Plans.{IsPlan}
use Rattle.scm_runs.proofs.Sound.{Sound}
use Rattle.scm_history.specs.Callers.{takes_leave}
use Rattle.scm_history.specs.Plans.{PlansAreTheirCallers, ends_plan}
use Rattle.scm_history.proofs.Finds.{found_below, is_some-map, told_filter, told_push}
use Rattle.scm_history.proofs.Lasting.{Allows, Lasts, coded_sides, of_step, settled_sides, sides, sides_of}

-- a plan that is there has a number below the next one
pub plan_below : (f : Flat) (number : ℕ) → Sound f → is_some (plan_of f.plans number) ≡ true → number < f.next.plan
plan_below f number s there =
    found_below (λ (plan : Plan). plan.number) number f.next.plan f.plans
    (All-weaker (IsPlan f.next.plan f.next.service f.callers) (λ (plan : Plan). plan.number < f.next.plan) (λ plan is. is.below) f.plans
    (All-from_recursion (IsPlan f.next.plan f.next.service f.callers) f.plans s.plans.each)) there

-- ## It lasts

abbrev pub IsThere : ℕ → ℕ → ℕ → List Plan → Type 0
IsThere number caller target plans = sides_of plans number ≡ Some (caller, target)

first_same : (plan : Plan) (caller target : ℕ) → sides plan ≡ (caller, target) → plan.caller ≡ caller
first_same plan caller target e = ap (λ (pair : ℕ × ℕ). pair.0) e

not_both : (a b : Bool) → b ≡ false → not (a && b) ≡ true
not_both true b e = ap not e
not_both false b e = refl

pub lasts : (number caller target : ℕ) → (caller == 0) ≡ false → Lasts number (λ plan. (number == plan) ≡ false)
    (λ gone. (caller == gone) ≡ false) (IsThere number caller target)
lasts number caller target somebody = record {
  codes = λ test code plans there. coded_sides test code plans number ∙ there;
  tidies = λ plans there. told_filter sides (is_numbered number) stays (caller, target)
      (λ plan same is. not_both (is_some plan.code) (plan.caller == 0) (subst (λ n. (n == 0) ≡ false)
      (sym (first_same plan caller target is)) somebody)) plans there;
  settles = λ l f plans there. settled_sides l f plans number ∙ there;
  begins = λ plans plan other there. told_push sides (is_numbered number) (caller, target) plans plan there;
  ends = λ one plans other there. told_filter sides (is_numbered number) (λ (plan : Plan). not (is_numbered one plan)) (caller, target)
      (λ plan same is. ap not (subst (λ n. (n == one) ≡ false) (sym (eqb-true plan.number number same)) other)) plans there;
  leaves = λ gone plans other there. told_filter sides (is_numbered number) (λ (plan : Plan). not (is_callers gone plan)) (caller, target)
      (λ plan same is. ap not (subst (λ n. (n == gone) ≡ false) (sym (first_same plan caller target is)) other)) plans there;
}

allowed : (number caller : ℕ) (step : Step) → ends_plan number step ≡ false → takes_leave caller step ≡ false
    → Allows (λ plan. (number == plan) ≡ false) (λ gone. (caller == gone) ≡ false) step
allowed number caller (EndStart by plan) ends leaves = ends
allowed number caller (Gone gone) ends leaves = leaves
allowed number caller step ends leaves = tt

-- ## The two of it

both_of : (found : Option Plan) (caller target : ℕ) → option_map (λ (plan : Plan). plan.caller) found ≡ Some caller
    → option_map (λ (plan : Plan). plan.target) found ≡ Some target → option_map sides found ≡ Some (caller, target)
both_of None caller target a b = absurd cc
both_of (Some plan) caller target a b = (let x : plan.caller ≡ caller = cc in let y : plan.target ≡ target = cc in
    ap (λ c. Some (c, plan.target)) x ∙ ap (λ t. Some (caller, t)) y)

pub caller_in : (found : Option Plan) (caller target : ℕ) → option_map sides found ≡ Some (caller, target)
    → option_map (λ (plan : Plan). plan.caller) found ≡ Some caller
caller_in None caller target e = absurd cc
caller_in (Some plan) caller target e = (let same : sides plan ≡ (caller, target) = cc in ap (λ (pair : ℕ × ℕ). Some pair.0) same)

pub target_in : (found : Option Plan) (caller target : ℕ) → option_map sides found ≡ Some (caller, target)
    → option_map (λ (plan : Plan). plan.target) found ≡ Some target
target_in None caller target e = absurd cc
target_in (Some plan) caller target e = (let same : sides plan ≡ (caller, target) = cc in ap (λ (pair : ℕ × ℕ). Some pair.1) same)

pub gives : (l : Limits) → Gives Sound PlansAreTheirCallers l
gives l f e s ok number caller target is somebody ends leaves =
    let there = both_of (plan_of f.plans number) caller target is.callers is.aims in
    let low = plan_below f number s (sym (is_some-map sides (plan_of f.plans number)) ∙ ap is_some there) in
    let after = of_step number (λ plan. (number == plan) ≡ false) (λ gone. (caller == gone) ≡ false) (IsThere number caller target)
    (lasts number caller target somebody) l f e.0 e.1 low
    (ne_eqb number f.next.plan (λ same. absurd (omega (arith, same, low)))) (allowed number caller e.1 ends leaves) there in
    record { callers = caller_in _ caller target after; aims = target_in _ caller target after }
