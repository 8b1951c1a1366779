-- A caller is in the state from its Joined until its Gone.
use Rattle.std.proofs.Common.{ℕ, ◌≡◌, ◌∙◌, ◌<◌, ◌≤◌, ◌==◌, ◌++◌, Bool, true, false, not, IsTrue, List, [], ◌∷◌, filter, ap, sym, refl}
use Rattle.std.proofs.Common.{subst, arith, eq-eqb, eqb-true, ne_eqb}
use Rattle.std.specs.Prelude.{IfSome, is_some}
use Rattle.scm_model.specs.declared.flat.Caller.{Caller}
use Rattle.scm_model.specs.declared.flat.Flat.{Flat}
use Rattle.scm_model.specs.declared.flat.Limits.{Limits}
use Rattle.scm_model.specs.declared.steps.Step.{Step}
use Rattle.scm_model.specs.declared.steps.Step.TheVariants.{Joined, Gone}
use Rattle.scm_model.specs.Rows.{is_caller}
use Rattle.scm_rules.specs.Runs.{IsLegal, run_state}
use Rattle.scm_model.specs.Entries.{Entry}
use Rattle.scm_rules.specs.Steps.{at_moment, effect_of, may, step_of}
use Rattle.scm_runs.proofs.Along.{Gives}
use Rattle.scm_runs.proofs.Calls.{keeps}
use Rattle.scm_runs.proofs.Handled.{found_still, has_caller, still_found}
use Rattle.scm_runs.proofs.Sound.{Sound}
use Rattle.scm_history.specs.Callers.{CallersStay, takes_leave, IsGoneForGood}
use Rattle.scm_rules.specs.Named.{caller_made}
use Rattle.scm_history.proofs.Effects.{callers_left}
use Rattle.scm_history.proofs.Finds.{find_push, found_below, none_filter}
use Rattle.std.proofs.lemmas.Bool.{and_parts}
use Rattle.scm_runs.proofs.Frames.{framed}
use Rattle.scm_runs.proofs.Handles.{not_there}
use Rattle.scm_runs.proofs.Lists.{find_new}
use Rattle.scm_rules.specs.Histories.{state}

abbrev has : ℕ → Caller → Bool
has number row = row.number == number

-- ## Effects

joined : (l : Limits) (f : Flat) (moment : ℕ) (step : Step) → IfSome (caller_made f step)
    (λ number. IsTrue (is_caller (effect_of l (at_moment f moment step) step).flat number))
joined l f moment (Joined principal) = find_new (has f.next.caller) f.callers (record { number = f.next.caller; principal = principal })
    (eq-eqb f.next.caller f.next.caller refl)
joined l f moment step = tt

others : (l : Limits) (f : Flat) (moment : ℕ) (step : Step) (number : ℕ) → takes_leave number step ≡ false → is_caller f number ≡ true
    → is_caller (effect_of l (at_moment f moment step) step).flat number ≡ true
others l f moment (Joined principal) number other there = ap is_some (still_found f.callers
    (record { number = f.next.caller; principal = principal }) number there) ∙ there
others l f moment (Gone caller) number other there = ap is_some (found_still f.callers caller number (ap not other)) ∙ there
others l f moment step number other there = ap (λ rows. has_caller rows number) (callers_left l f moment step refl).rows ∙ there

left : (l : Limits) (f : Flat) (moment : ℕ) (step : Step) (number : ℕ) → takes_leave number step ≡ true
    → is_caller (effect_of l (at_moment f moment step) step).flat number ≡ false
left l f moment (Gone caller) number leaves =
    subst (λ n. has_caller (filter (λ (row : Caller). not (row.number == caller)) f.callers) n ≡ false)
    (sym (eqb-true number caller leaves)) (not_there f.callers caller)
left l f moment step number leaves = absurd cc

away : (l : Limits) (f : Flat) (moment : ℕ) (step : Step) (number : ℕ) → number < f.next.caller → is_caller f number ≡ false
    → is_caller (effect_of l (at_moment f moment step) step).flat number ≡ false
away l f moment (Joined principal) number low none =
    ap is_some (find_push (has number) f.callers (record { number = f.next.caller; principal = principal })
    (ne_eqb f.next.caller number (λ e. absurd (omega (arith, e, low))))) ∙ none
away l f moment (Gone caller) number low none = none_filter (has number) (λ (row : Caller). not (row.number == caller)) f.callers none
away l f moment step number low none = ap (λ rows. has_caller rows number) (callers_left l f moment step refl).rows ∙ none

rises : (l : Limits) (f : Flat) (moment : ℕ) (step : Step) → f.next.caller ≤ (effect_of l (at_moment f moment step) step).flat.next.caller
rises l f moment (Joined principal) = omega arith
rises l f moment (Gone caller) = omega arith
rises l f moment step = (let e = (callers_left l f moment step refl).next in omega (arith, e))

-- ## Steps

-- a step leaves the callers that its effect left
pub callers_after : (l : Limits) (f : Flat) (moment : ℕ) (step : Step) →
    (step_of l f moment step).flat.callers ≡ (effect_of l (at_moment f moment step) step).flat.callers
callers_after l f moment step = ap (λ (x : Flat). x.callers) (framed l f moment step)

pub caller_after : (l : Limits) (f : Flat) (moment : ℕ) (step : Step) (number : ℕ)
    → is_caller (step_of l f moment step).flat number ≡ is_caller (effect_of l (at_moment f moment step) step).flat number
caller_after l f moment step number = ap (λ rows. has_caller rows number) (callers_after l f moment step)

pub next_after : (l : Limits) (f : Flat) (moment : ℕ) (step : Step) → (step_of l f moment step).flat.next.caller ≡
    (effect_of l (at_moment f moment step) step).flat.next.caller
next_after l f moment step = ap (λ (x : Flat). x.next.caller) (framed l f moment step)

-- the next number never falls
pub rising : (l : Limits) (f : Flat) (moment : ℕ) (step : Step) → f.next.caller ≤ (step_of l f moment step).flat.next.caller
rising l f moment step = (let e = next_after l f moment step in let up = rises l f moment step in omega (arith, e, up))

-- who has left doesn't come back
pub stays_out : (l : Limits) (f : Flat) (moment : ℕ) (step : Step) (number : ℕ) → number < f.next.caller → is_caller f number ≡ false
    → is_caller (step_of l f moment step).flat number ≡ false
stays_out l f moment step number low none = caller_after l f moment step number ∙ away l f moment step number low none

pub is_out : (l : Limits) (f : Flat) (moment : ℕ) (step : Step) (number : ℕ) → takes_leave number step ≡ true
    → is_caller (step_of l f moment step).flat number ≡ false
is_out l f moment step number leaves = caller_after l f moment step number ∙ left l f moment step number leaves

pub gives : (l : Limits) → Gives Sound CallersStay l
gives l f e s ok = record {
  joined = subst (λ rows. IfSome (caller_made f e.1) (λ number. IsTrue (has_caller rows number))) (sym (callers_after l f e.0 e.1))
      (joined l f e.0 e.1);
  others = λ number other there. caller_after l f e.0 e.1 number ∙ others l f e.0 e.1 number other there;
  gone = λ number leaves. is_out l f e.0 e.1 number leaves;
  away = λ number low none. stays_out l f e.0 e.1 number low none;
}

-- ## Histories

out_for_good : (l : Limits) (f : Flat) (es : List Entry) (number : ℕ) → number < f.next.caller → is_caller f number ≡ false
    → is_caller (run_state l f es) number ≡ false
out_for_good l f [] number low none = none
out_for_good l f (e ∷ es) number low none =
    out_for_good l (step_of l f e.0 e.1).flat es number (let up = rising l f e.0 e.1 in omega (arith, up, low))
    (stays_out l f e.0 e.1 number low none)

-- who leaves has joined
pub left_below : (l : Limits) (f : Flat) (moment : ℕ) (step : Step) (number : ℕ) → Sound f → IsTrue (may l f moment step)
    → takes_leave number step ≡ true → number < f.next.caller
left_below l f moment (Gone caller) number s ok leaves =
    subst (λ n. n < f.next.caller) (sym (eqb-true number caller leaves))
    (found_below (λ (row : Caller). row.number) caller f.next.caller f.callers s.handles.callers.below (and_parts _ _ ok).0)
left_below l f moment step number s ok leaves = absurd cc

gone_behind : (l : Limits) (f : Flat) (number : ℕ) (front : List Entry) (e : Entry) (rest : List Entry) → Sound f
    → IsLegal l f (front ++ e ∷ rest) → takes_leave number e.1 ≡ true
    → is_caller (run_state l f (front ++ e ∷ rest)) number ≡ false
gone_behind l f number [] e rest s legal leaves =
    out_for_good l (step_of l f e.0 e.1).flat rest number
    (let low = left_below l f e.0 e.1 number s legal.0 leaves in let up = rising l f e.0 e.1 in omega (arith, up, low))
    (is_out l f e.0 e.1 number leaves)
gone_behind l f number (first ∷ front) e rest s legal leaves =
    gone_behind l (step_of l f first.0 first.1).flat number front e rest (keeps l f first s legal.0) legal.1 leaves

in_the_end : (l : Limits) (f : Flat) (es : List Entry) → Sound f → IsLegal l f es
    → (number : ℕ) (front : List Entry) (e : Entry) (rest : List Entry) → es ≡ front ++ e ∷ rest → takes_leave number e.1 ≡ true
    → is_caller (run_state l f es) number ≡ false
in_the_end l f es s legal number front e rest split leaves =
    subst (λ all. is_caller (run_state l f all) number ≡ false) (sym split)
    (gone_behind l f number front e rest s (subst (IsLegal l f) split legal) leaves)

pub gone_for_good : (l : Limits) (f : Flat) (es : List Entry) → Sound f → IsLegal l f es → IsGoneForGood l f es
unfolding state
gone_for_good l f es s legal number front e rest split leaves = in_the_end l f es s legal number front e rest split leaves
