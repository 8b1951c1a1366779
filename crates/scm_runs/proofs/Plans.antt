-- What is true of plans and due rows, and what each change of them keeps.
use Rattle.std.proofs.Common.{ℕ, zero, suc, ◌≡◌, ◌∙◌, ◌+◌, ◌<◌, ◌≤◌, ◌==◌, ◌||◌, Bool, true, false, not, cond, List, [], ◌∷◌, ◌++◌, filter}
use Rattle.std.proofs.Common.{map, ap, refl, arith, eqb}
use Rattle.std.specs.Prelude.{All, AllPairs, is_some}
use Rattle.std.specs.List.{AllByRecursion, IsDistinct}
use Rattle.std.proofs.lemmas.List.Elements.{All-cons, All-from_recursion, All-nil, All-weaker}
use Rattle.scm_model.specs.declared.flat.Caller.{Caller}
use Rattle.scm_model.specs.declared.flat.DueKind.{DueKind}
use Rattle.scm_model.specs.declared.flat.DueKind.TheVariants as dues
use Rattle.scm_model.specs.declared.flat.Plan.{Plan}
use Rattle.start_plan.specs.Decided.{decided_if, decided_in, is_callers, is_numbered, without_plans_of}
use Rattle.start_plan.specs.Planned.{IsRising, plan_numbers}
use Rattle.start_plan.specs.Settle.{stays}
use Rattle.start_plan.specs.Started.{TriedOnce}
use Rattle.start_plan.proofs.Keeps.{all_filter}
use Rattle.start_plan.proofs.Rising.{rising_decided, rising_filter}
use Rattle.scm_rules.specs.Valid.{AreNumbered}
use Rattle.scm_runs.proofs.Handled.{found_still, has_caller, still_found}
use Rattle.scm_runs.proofs.Unasked.{expired}

-- each is below a number
abbrev pub AreBelow : ℕ → List ℕ → Type 0
AreBelow bound numbers = AllByRecursion (λ n. n < bound) numbers

-- who began it has joined, or nobody did
abbrev pub IsKnown : List Caller → Plan → Type 0
IsKnown callers plan = (plan.caller == 0 || has_caller callers plan.caller) ≡ true

pub record IsPlan (next service : ℕ) (callers : List Caller) (plan : Plan) : Type 0 where
  pub positive : 1 ≤ plan.number
  pub below : plan.number < next
  pub known : IsKnown callers plan
  pub once : IsDistinct eqb plan.tried
  pub within : AreBelow service plan.entries

pub record ArePlans (next service : ℕ) (callers : List Caller) (plans : List Plan) : Type 0 where
  pub first : 1 ≤ next
  pub each : AllByRecursion (IsPlan next service callers) plans
  pub rising : IsRising (plan_numbers plans)

pub no_plans : (next : ℕ) → ArePlans 1 next [] []
no_plans next = record { first = omega arith; each = tt; rising = tt }

pub all_weaker : (P Q : Plan → Type 0) → ((plan : Plan) → P plan → Q plan) → (plans : List Plan) → AllByRecursion P plans
    → AllByRecursion Q plans
all_weaker P Q weaker [] all = tt
all_weaker P Q weaker (plan ∷ plans) all = (weaker plan all.0, all_weaker P Q weaker plans all.1)

-- no plan has tried a service twice
pub tried_once : (next service : ℕ) (callers : List Caller) (plans : List Plan) → ArePlans next service callers plans → TriedOnce plans
tried_once next service callers plans s = all_weaker (IsPlan next service callers) (λ (plan : Plan). IsDistinct eqb plan.tried)
    (λ plan is. is.once) plans s.each

-- ## Numbers

above : (n : ℕ) (plans : List Plan) → AllByRecursion (λ later. n < later) (plan_numbers plans)
    → All (λ (plan : Plan). n < plan.number) plans
above n [] all = All-nil (λ (plan : Plan). n < plan.number)
above n (plan ∷ plans) all = All-cons (λ (plan : Plan). n < plan.number) plan plans all.0 (above n plans all.1)

pairs : (plans : List Plan) → IsRising (plan_numbers plans) → AllPairs (λ (a b : Plan). a.number < b.number) plans
pairs [] rising i j d lt within = absurd (omega arith)
pairs (plan ∷ plans) rising i zero d lt within = absurd (omega arith)
pairs (plan ∷ plans) rising zero (suc j) d lt within = above plan.number plans rising.0 j d (omega arith)
pairs (plan ∷ plans) rising (suc i) (suc j) d lt within = pairs plans rising.1 i j d (omega arith) (omega arith)

pub numbered : (next service : ℕ) (callers : List Caller) (plans : List Plan) → ArePlans next service callers plans
    → AreNumbered (λ (plan : Plan). plan.number) next plans
numbered next service callers plans s =
    let each = All-from_recursion (IsPlan next service callers) plans s.each in
    record {
      positive = All-weaker (IsPlan next service callers) (λ (plan : Plan). 1 ≤ plan.number) (λ plan p. p.positive) plans each;
      below = All-weaker (IsPlan next service callers) (λ (plan : Plan). plan.number < next) (λ plan p. p.below) plans each;
      rising = pairs plans s.rising;
    }

-- ## Plans fewer

pub fewer : (next service : ℕ) (callers : List Caller) (p : Plan → Bool) (plans : List Plan) → ArePlans next service callers plans
    → ArePlans next service callers (filter p plans)
fewer next service callers p plans s = record {
  first = s.first;
  each = all_filter (IsPlan next service callers) p plans s.each;
  rising = rising_filter p plans s.rising;
}

-- ## Plans decided

all_decided : (next service : ℕ) (callers : List Caller) (test : Plan → Bool) (code : ℕ) (plans : List Plan)
    → AllByRecursion (IsPlan next service callers) plans → AllByRecursion (IsPlan next service callers) (map (decided_if test code) plans)
all_decided next service callers test code [] all = tt
all_decided next service callers test code (plan ∷ plans) all = (
  record { positive = all.0.positive; below = all.0.below; known = all.0.known; once = all.0.once; within = all.0.within },
  all_decided next service callers test code plans all.1,
)

pub decided : (next service : ℕ) (callers : List Caller) (test : Plan → Bool) (code : ℕ) (plans : List Plan)
    → ArePlans next service callers plans → ArePlans next service callers (decided_in test code plans)
decided next service callers test code plans s = record {
  first = s.first;
  each = all_filter (IsPlan next service callers) stays (map (decided_if test code) plans)
      (all_decided next service callers test code plans s.each);
  rising = rising_decided test code plans s.rising;
}

pub has_expired : (next service : ℕ) (callers : List Caller) (plans : List Plan) (kind : DueKind) → ArePlans next service callers plans
    → ArePlans next service callers (expired plans kind)
has_expired next service callers plans (dues.Deadline plan) s = decided next service callers (is_numbered plan) 1053 plans s
has_expired next service callers plans kind s = s

-- ## A plan more

below_more : (n m : ℕ) (plans : List Plan) (plan : Plan) → AllByRecursion (λ later. n < later) (plan_numbers plans) → n < plan.number
    → AllByRecursion (λ later. n < later) (plan_numbers (plans ++ plan ∷ []))
below_more n m [] plan all lt = (lt, tt)
below_more n m (first ∷ plans) plan all lt = (all.0, below_more n m plans plan all.1 lt)

rising_more : (next service : ℕ) (callers : List Caller) (plans : List Plan) (plan : Plan)
    → AllByRecursion (IsPlan next service callers) plans → IsRising (plan_numbers plans) → plan.number ≡ next
    → IsRising (plan_numbers (plans ++ plan ∷ []))
rising_more next service callers [] plan all rising e = (tt, tt)
rising_more next service callers (first ∷ plans) plan all rising e = (
  below_more first.number 0 plans plan rising.0 (let below = all.0.below in omega (arith, e, below)),
  rising_more next service callers plans plan all.1 rising.1 e,
)

pub all_more : (P : Plan → Type 0) (plans : List Plan) (plan : Plan) → AllByRecursion P plans → P plan
    → AllByRecursion P (plans ++ plan ∷ [])
all_more P [] plan all here = (here, tt)
all_more P (first ∷ plans) plan all here = (all.0, all_more P plans plan all.1 here)

pub more : (next service : ℕ) (callers : List Caller) (plans : List Plan) (plan : Plan) → ArePlans next service callers plans
    → plan.number ≡ next → IsPlan (next + 1) service callers plan
    → ArePlans (next + 1) service callers (plans ++ plan ∷ [])
more next service callers plans plan s number new = record {
  first = (let first = s.first in omega arith);
  each = all_more (IsPlan (next + 1) service callers) plans plan
      (all_weaker (IsPlan next service callers) (IsPlan (next + 1) service callers)
      (λ p is. record {
        positive = is.positive;
        below = (let below = is.below in omega arith);
        known = is.known;
        once = is.once;
        within = is.within;
      }) plans s.each) new;
  rising = rising_more next service callers plans plan s.each s.rising number;
}

-- ## Callers and services beside

below_next : (bound : ℕ) (numbers : List ℕ) → AreBelow bound numbers → AreBelow (bound + 1) numbers
below_next bound [] all = tt
below_next bound (n ∷ numbers) all = ((let below = all.0 in omega arith), below_next bound numbers all.1)

-- a service more
pub service_more : (next service : ℕ) (callers : List Caller) (plans : List Plan) → ArePlans next service callers plans
    → ArePlans next (service + 1) callers plans
service_more next service callers plans s = record {
  first = s.first;
  each = all_weaker (IsPlan next service callers) (IsPlan next (service + 1) callers)
      (λ p is. record {
        positive = is.positive;
        below = is.below;
        known = is.known;
        once = is.once;
        within = below_next service p.entries is.within;
      }) plans s.each;
  rising = s.rising;
}

known_or : (b c d : Bool) → (c ≡ true → d ≡ true) → (b || c) ≡ true → (b || d) ≡ true
known_or true c d keeps h = refl
known_or false c d keeps h = keeps h

-- a caller more
pub caller_more : (next service : ℕ) (callers : List Caller) (new : Caller) (plans : List Plan) → ArePlans next service callers plans
    → ArePlans next service (callers ++ new ∷ []) plans
caller_more next service callers new plans s = record {
  first = s.first;
  each = all_weaker (IsPlan next service callers) (IsPlan next service (callers ++ new ∷ []))
      (λ p is. record {
        positive = is.positive;
        below = is.below;
        known = known_or (p.caller == 0) (has_caller callers p.caller) (has_caller (callers ++ new ∷ []) p.caller)
            (λ there. ap is_some (still_found callers new p.caller there) ∙ there) is.known;
        once = is.once;
        within = is.within;
      }) plans s.each;
  rising = s.rising;
}

all_left : (next service : ℕ) (callers : List Caller) (caller : ℕ) (plans : List Plan) → AllByRecursion (IsPlan next service callers) plans
    → AllByRecursion (IsPlan next service (filter (λ (row : Caller). not (row.number == caller)) callers)) (without_plans_of plans caller)
all_left next service callers caller [] all = tt
all_left next service callers caller (plan ∷ plans) all =
    let rest = all_left next service callers caller plans all.1 in
    let left = filter (λ (row : Caller). not (row.number == caller)) callers in
    elim (not (plan.caller == caller)) as (λ b. not (plan.caller == caller) ≡ b
    → AllByRecursion (IsPlan next service left) (cond b (plan ∷ without_plans_of plans caller) (without_plans_of plans caller))) [
      | true ↦ λ e. (
        record {
          positive = all.0.positive;
          below = all.0.below;
          known = known_or (plan.caller == 0) (has_caller callers plan.caller) (has_caller left plan.caller)
              (λ there. ap is_some (found_still callers caller plan.caller e) ∙ there) all.0.known;
          once = all.0.once;
          within = all.0.within;
        },
        rest,
      )
      | false ↦ λ e. rest
    ] refl

-- a caller goes with its plans
pub caller_left : (next service : ℕ) (callers : List Caller) (caller : ℕ) (plans : List Plan) → ArePlans next service callers plans
    → ArePlans next service (filter (λ (row : Caller). not (row.number == caller)) callers) (without_plans_of plans caller)
caller_left next service callers caller plans s = record {
  first = s.first;
  each = all_left next service callers caller plans s.each;
  rising = rising_filter (λ (plan : Plan). not (is_callers caller plan)) plans s.rising;
}
