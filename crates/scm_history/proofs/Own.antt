-- The entries of one caller.
use Rattle.std.proofs.Common.{ℕ, ◌≡◌, ◌≢◌, ◌<◌, ◌≤◌, ◌||◌, Bool, true, false, cond, List, [], ◌∷◌, Option, None, Some, ap, refl, subst, sym}
use Rattle.std.proofs.Common.{arith, eq-eqb, eqb-true, leb, leb-true, leb-false, ne_eqb, ◌∙◌}
use Rattle.std.specs.Prelude.{IfSome}
use Rattle.std.proofs.lemmas.Option.{IfSome_then}
use Rattle.scm_model.specs.declared.flat.Caller.{Caller}
use Rattle.scm_model.specs.declared.flat.Flat.{Flat}
use Rattle.scm_model.specs.declared.flat.Limits.{Limits}
use Rattle.scm_model.specs.declared.steps.Step.{Step}
use Rattle.scm_model.specs.declared.steps.Step.TheVariants.{Joined, Gone}
use Rattle.scm_model.specs.Rows.{is_caller}
use Rattle.scm_rules.specs.Runs.{IsLegal}
use Rattle.scm_model.specs.Entries.{Entry}
use Rattle.scm_rules.specs.Steps.{at_moment, effect_of, step_of}
use Rattle.scm_runs.proofs.Calls.{keeps}
use Rattle.scm_runs.proofs.Handled.{has_caller}
use Rattle.scm_runs.proofs.Sound.{Sound}
use Rattle.scm_rules.specs.Named.{caller_named, is_it, makes_caller, names_caller, of_caller}
use Rattle.scm_history.specs.Numbers.{IsGiven}
use Rattle.scm_history.specs.Own.{BeginsWithJoined, named_entries, is_joined}
use Rattle.scm_history.proofs.Callers.{next_after, rising, stays_out}
use Rattle.scm_history.proofs.Effects.{callers_left}
use Rattle.scm_history.proofs.Finds.{found_below}
use Rattle.scm_history.proofs.Made.{IsEmpty}
use Rattle.scm_history.proofs.Names.{caller_there}
use Rattle.scm_history.proofs.Numbers.{joins_after}

-- ## Once it has joined

makes_not : (f : Flat) (caller : ℕ) (step : Step) → caller < f.next.caller → makes_caller f caller step ≡ false
makes_not f caller (Joined principal) low = ne_eqb caller f.next.caller (λ e. absurd (omega (arith, e, low)))
makes_not f caller step low = refl

pub all_later : (l : Limits) (f : Flat) (caller : ℕ) (es : List Entry) → caller < f.next.caller
    → of_caller l f caller es ≡ named_entries caller es
all_later l f caller [] low = refl
all_later l f caller (e ∷ es) low =
    let rest = all_later l (step_of l f e.0 e.1).flat caller es (let up = rising l f e.0 e.1 in omega (arith, up, low)) in
    let own = of_caller l (step_of l f e.0 e.1).flat caller es in
    elim (names_caller caller e.1) as (λ b. cond (b || makes_caller f caller e.1) (e ∷ own) own ≡ cond b (e ∷ named_entries caller es)
    (named_entries caller es)) [
      | true ↦ ap (λ later. e ∷ later) rest
      | false ↦ subst (λ b. cond b (e ∷ own) own ≡ named_entries caller es) (sym (makes_not f caller e.1 low)) rest
    ]

-- ## Until it joins

not_it : (next caller : ℕ) (found : Option ℕ) → next ≤ caller → IfSome found (λ number. number < next) → is_it caller found ≡ false
not_it next caller None up below = refl
not_it next caller (Some number) up below = ne_eqb caller number (λ e. absurd (omega (arith, e, up, below)))

pub given_it : (next later caller : ℕ) (found : Option ℕ) → IfSome found (IsGiven next later) → is_it caller found ≡ true → caller < later
given_it next later caller None given it = absurd cc
given_it next later caller (Some number) given it = subst (λ n. n < later) (sym (eqb-true caller number it)) given.below

makes_joined : (f : Flat) (caller : ℕ) (step : Step) → makes_caller f caller step ≡ true → is_joined step ≡ true
makes_joined f caller (Joined principal) makes = refl
makes_joined f caller step makes = absurd cc

-- another number is given, or none
above_effect : (l : Limits) (f : Flat) (moment : ℕ) (step : Step) (caller : ℕ) → f.next.caller ≤ caller → makes_caller f caller step ≡ false
    → (effect_of l (at_moment f moment step) step).flat.next.caller ≤ caller
above_effect l f moment (Joined principal) caller up other =
    let apart : caller ≢ f.next.caller = λ e. absurd (let same = eq-eqb caller f.next.caller e in cc) in
    omega (arith, up, apart)
above_effect l f moment (Gone gone) caller up other = up
above_effect l f moment step caller up other = (let e = (callers_left l f moment step refl).next in omega (arith, e, up))

pub begins : (l : Limits) (f : Flat) (es : List Entry) → Sound f → IsLegal l f es → (caller : ℕ) → f.next.caller ≤ caller
    → BeginsWithJoined caller es (of_caller l f caller es)
begins l f [] s legal caller up = refl
begins l f (e ∷ es) s legal caller up =
    let after = (step_of l f e.0 e.1).flat in
    let own = of_caller l after caller es in
    let other : names_caller caller e.1 ≡ false = not_it f.next.caller caller (caller_named e.1) up
    (IfSome_then (caller_named e.1) (caller_there l f e.0 e.1 legal.0) (λ number there. found_below
    (λ (row : Caller). row.number) number f.next.caller f.callers s.handles.callers.below there)) in
    subst (λ (b : Bool). BeginsWithJoined caller (e ∷ es) (cond (b || makes_caller f caller e.1) (e ∷ own) own)) (sym other)
    (elim (makes_caller f caller e.1) as (λ b. makes_caller f caller e.1 ≡ b → BeginsWithJoined caller (e ∷ es) (cond b (e ∷ own) own)) [
      | true ↦ λ h. record {
        joins = makes_joined f caller e.1 h;
        names = subst (λ (b : Bool). own ≡ cond b (e ∷ named_entries caller es) (named_entries caller es)) (sym other)
            (all_later l after caller es (given_it f.next.caller after.next.caller caller _ (joins_after l f e.0 e.1) h));
      }
      | false ↦ λ h. still e es own other (begins l after es (keeps l f e s legal.0) legal.1 caller
          (let same = next_after l f e.0 e.1 in let above = above_effect l f e.0 e.1 caller up h in omega (arith, same, above)))
    ] refl)
  where
    -- an entry that names another caller, or none
    still : (e : Entry) (es own : List Entry) → names_caller caller e.1 ≡ false → BeginsWithJoined caller es own
        → BeginsWithJoined caller (e ∷ es) own
    still e es [] other rest = subst (λ (b : Bool). cond b (e ∷ named_entries caller es) (named_entries caller es) ≡ []) (sym other) rest
    still e es (first ∷ own) other rest = record {
      joins = rest.joins;
      names =
          subst (λ (b : Bool). own ≡ cond b (e ∷ named_entries caller es) (named_entries caller es)) (sym other) rest.names;
    }

-- ## Numbers of nobody

named_is : (f : Flat) (caller : ℕ) (found : Option ℕ) → is_caller f caller ≡ false → IfSome found (λ number. is_caller f number ≡ true)
    → is_it caller found ≡ false
named_is f caller None out there = refl
named_is f caller (Some number) out there = ne_eqb caller number (λ e. absurd
    (let in_it : is_caller f caller ≡ true = subst (λ n. is_caller f n ≡ true) (sym e) there in cc))

-- who has left, or never was, is not named
none_named : (l : Limits) (f : Flat) (caller : ℕ) (es : List Entry) → IsLegal l f es → caller < f.next.caller → is_caller f caller ≡ false
    → named_entries caller es ≡ []
none_named l f caller [] legal low out = refl
none_named l f caller (e ∷ es) legal low out =
    subst (λ (b : Bool). cond b (e ∷ named_entries caller es) (named_entries caller es) ≡ [])
    (sym (named_is f caller (caller_named e.1) out (caller_there l f e.0 e.1 legal.0)))
    (none_named l (step_of l f e.0 e.1).flat caller es legal.1 (let up = rising l f e.0 e.1 in omega (arith, up, low))
    (stays_out l f e.0 e.1 caller low out))

-- the entries of whoever isn't there in the beginning
pub begins_at : (l : Limits) (f : Flat) (es : List Entry) → Sound f → IsEmpty f → IsLegal l f es → (caller : ℕ)
    → BeginsWithJoined caller es (of_caller l f caller es)
begins_at l f es s empty legal caller =
    elim (leb f.next.caller caller) as (λ b. leb f.next.caller caller ≡ b → BeginsWithJoined caller es (of_caller l f caller es)) [
      | true ↦ λ e. begins l f es s legal caller (leb-true f.next.caller caller e)
      | false ↦ λ e. (let low = leb-false f.next.caller caller e in
          let none = none_named l f caller es legal low (ap (λ rows. has_caller rows caller) empty.callers) in
          subst (BeginsWithJoined caller es) (sym (all_later l f caller es low ∙ none)) none)
    ] refl
