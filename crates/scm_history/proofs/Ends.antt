-- A start is answered once.
use Rattle.std.proofs.Common.{ℕ, ◌≡◌, ◌<◌, ◌==◌, ◌++◌, true, false, not, cond, IsTrue, List, [], ◌∷◌, Option, None, Some, find, sym, refl}
use Rattle.std.proofs.Common.{subst, arith, eqb-true}
use Rattle.std.specs.Prelude.{All, is_some, option_map}
use Rattle.std.proofs.lemmas.List.Elements.{All-cons, All-nil}
use Rattle.scm_model.specs.declared.flat.Flat.{Flat}
use Rattle.scm_model.specs.declared.flat.Limits.{Limits}
use Rattle.scm_model.specs.declared.flat.Plan.{Plan}
use Rattle.scm_model.specs.declared.steps.Step.{Step}
use Rattle.scm_model.specs.declared.steps.Step.TheVariants.{EndStart}
use Rattle.scm_model.specs.Changes.{with_moment}
use Rattle.start_plan.specs.Decided.{is_numbered, plan_of, without_plan}
use Rattle.start_plan.specs.Settle.{settle_all}
use Rattle.scm_rules.specs.Runs.{IsLegal}
use Rattle.scm_model.specs.Entries.{Entry}
use Rattle.scm_rules.specs.Start.{is_caller_of}
use Rattle.scm_rules.specs.Steps.{effect_of, may, step_of}
use Rattle.scm_runs.proofs.Calls.{keeps}
use Rattle.scm_runs.proofs.Sound.{Sound}
use Rattle.scm_history.specs.Plans.{ends_plan}
use Rattle.scm_history.proofs.Numbers.{IsNone, none_last, plan_rises, stays_none}
use Rattle.scm_history.proofs.Plans.{plan_below}
use Rattle.std.proofs.lemmas.Bool.{and_parts}

-- a plan of a caller is there
there_in : (found : Option Plan) (caller : ℕ) → is_caller_of (option_map (λ (plan : Plan). plan.caller) found) caller ≡ true
    → is_some found ≡ true
there_in None caller h = absurd cc
there_in (Some plan) caller h = refl

-- a plan whose start is answered is there
ended_there : (l : Limits) (f : Flat) (moment : ℕ) (step : Step) (number : ℕ) → IsTrue (may l f moment step) → ends_plan number step ≡ true
    → is_some (plan_of f.plans number) ≡ true
ended_there l f moment (EndStart caller plan) number ok ends =
    subst (λ n. is_some (plan_of f.plans n) ≡ true) (sym (eqb-true number plan ends))
    (there_in (plan_of f.plans plan) caller (and_parts _ _ (and_parts _ _ (and_parts _ _ ok).0).1).0)
ended_there l f moment step number ok ends = absurd cc

none_left : (number : ℕ) (plans : List Plan) → IsNone number (without_plan plans number)
none_left number [] = refl
none_left number (plan ∷ plans) =
    elim (plan.number == number) as (λ b. (plan.number == number) ≡ b →
    is_some (find (is_numbered number) (cond (not b) (plan ∷ without_plan plans number) (without_plan plans number))) ≡ false) [
      | true ↦ λ e. none_left number plans
      | false ↦ λ e. rw e (none_left number plans)
    ] refl

-- it isn't there afterwards
ended_none : (l : Limits) (f : Flat) (moment : ℕ) (step : Step) (number : ℕ) → ends_plan number step ≡ true
    → IsNone number (step_of l f moment step).flat.plans
ended_none l f moment (EndStart caller plan) number ends =
    let g = (effect_of l (with_moment f moment) (EndStart caller plan)).flat in
    let none : IsNone number g.plans = subst (λ n. IsNone number (without_plan f.plans n)) (eqb-true number plan ends)
    (none_left number f.plans) in
    (none_last number).tidies (settle_all l g g.plans).plans ((none_last number).settles l g g.plans none)
ended_none l f moment step number ends = absurd cc

never : (l : Limits) (f : Flat) (number : ℕ) (es : List Entry) → IsLegal l f es → number < f.next.plan
    → is_some (plan_of f.plans number) ≡ false → All (λ (later : Entry). ends_plan number later.1 ≡ false) es
never l f number [] legal low none = All-nil (λ (later : Entry). ends_plan number later.1 ≡ false)
never l f number (e ∷ es) legal low none =
    All-cons (λ (later : Entry). ends_plan number later.1 ≡ false) e es
    (elim (ends_plan number e.1) as (λ b. ends_plan number e.1 ≡ b → b ≡ false)
    [ true ↦ λ h. absurd (let there = ended_there l f e.0 e.1 number legal.0 h in cc) | false ↦ λ h. refl ] refl)
    (never l (step_of l f e.0 e.1).flat number es legal.1 (let up = plan_rises l f e.0 e.1 in omega (arith, up, low))
    (stays_none l f e.0 e.1 number low none))

ends_behind : (l : Limits) (f : Flat) (number : ℕ) (front : List Entry) (e : Entry) (rest : List Entry) → Sound f
    → IsLegal l f (front ++ e ∷ rest) → ends_plan number e.1 ≡ true
    → All (λ (later : Entry). ends_plan number later.1 ≡ false) rest
ends_behind l f number [] e rest s legal ends =
    never l (step_of l f e.0 e.1).flat number rest legal.1
    (let low = plan_below f number s (ended_there l f e.0 e.1 number legal.0 ends) in let up = plan_rises l f e.0 e.1 in
    omega (arith, up, low)) (ended_none l f e.0 e.1 number ends)
ends_behind l f number (first ∷ front) e rest s legal ends = ends_behind l (step_of l f first.0 first.1).flat number front e rest
    (keeps l f first s legal.0) legal.1 ends

pub ends_once : (l : Limits) (f : Flat) (es : List Entry) → Sound f → IsLegal l f es
    → (number : ℕ) (front : List Entry) (e : Entry) (rest : List Entry) → es ≡ front ++ e ∷ rest → ends_plan number e.1 ≡ true
    → All (λ (later : Entry). ends_plan number later.1 ≡ false) rest
ends_once l f es s legal number front e rest split ends = ends_behind l f number front e rest s (subst (IsLegal l f) split legal) ends
