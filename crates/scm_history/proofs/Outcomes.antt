-- What the steps of a history did with the changes that they make.
use Rattle.std.proofs.Common.{suc, ◌≡◌, ◌∙◌, ◌&&◌, Bool, true, false, List, [], ◌∷◌, ◌++◌, Option, Some, length, ap, sym, refl}
use Rattle.std.specs.Prelude.{is_some}
use Rattle.std.specs.List.{list_any}
use Rattle.std.proofs.lemmas.Bool.{or_from, or_parts}
use Rattle.scm_model.specs.declared.flat.Flat.{Flat}
use Rattle.scm_model.specs.declared.flat.Limits.{Limits}
use Rattle.scm_model.specs.declared.steps.Change.{Change}
use Rattle.scm_model.specs.declared.steps.Kept.TheVariants as appended
use Rattle.scm_model.specs.declared.steps.Step.{Step}
use Rattle.scm_model.specs.declared.steps.Step.TheVariants.{Call}
use Rattle.scm_model.specs.Entries.{Entry, with_kept}
use Rattle.scm_rules.specs.Runs.{run_state}
use Rattle.scm_rules.specs.Steps.{step_of}
use Rattle.scm_rules.specs.Verdicts.{change_of, change_of_call}
use Rattle.scm_runs.proofs.Histories.{state_is}
use Rattle.scm_history.specs.Kept.{kept_change, kept_changes, one_or_none}
use Rattle.scm_history.specs.Outcomes.{LawOfOutcomes, Outcome, if_kept, is_lost, kept_among, no_outcome, outcome_in, outcome_of, outcomes}
use Rattle.scm_history.specs.Outcomes.{tells_failed}

outcomes_behind : (l : Limits) (f : Flat) (front rest : List Entry) → outcomes l f (front ++ rest) ≡ outcomes l f front
    ++ outcomes l (run_state l f front) rest
unfolding outcomes
outcomes_behind l f [] rest = refl
outcomes_behind l f (e ∷ front) rest =
    ap (λ (outs : List Outcome). outcome_in l f e.1 ∷ outs) (outcomes_behind l (step_of l f e.0 e.1).flat front rest)

outcome_one : (l : Limits) (g : Flat) (e : Entry) → outcomes l g (e ∷ []) ≡ outcome_in l g e.1 ∷ []
unfolding outcomes
outcome_one l g e = refl

outcomes_none : (l : Limits) (f : Flat) → outcomes l f [] ≡ []
unfolding outcomes
outcomes_none l f = refl

outcomes_long : (l : Limits) (f : Flat) (es : List Entry) → length (outcomes l f es) ≡ length es
unfolding outcomes
outcomes_long l f [] = refl
outcomes_long l f (e ∷ es) = ap suc (outcomes_long l (step_of l f e.0 e.1).flat es)

was_kept : (l : Limits) (g : Flat) (step : Step) (change : Change) → change_of l g step ≡ Some change
    → outcome_in l g (with_kept step appended.Kept) ≡ outcome_of change true
was_kept l g (Call caller asked append) change is = ap (λ (c : Option Change). record { change = c; kept = true }) is
was_kept l g step change is = absurd cc

has_failed : (l : Limits) (g : Flat) (step : Step) (change : Change) → change_of l g step ≡ Some change
    → outcome_in l g (with_kept step appended.Failed) ≡ outcome_of change false
has_failed l g (Call caller asked append) change is = ap (λ (c : Option Change). record { change = c; kept = false }) is
has_failed l g step change is = absurd cc

not_asked : (l : Limits) (g : Flat) (step : Step) → outcome_in l g (with_kept step appended.NotAsked) ≡ no_outcome
not_asked l g (Call caller asked append) = refl
not_asked l g step = refl

-- the change that a step tells to be kept is the one of its outcome
told_kept : (l : Limits) (g : Flat) (step : Step) → kept_change l g step ≡ if_kept (outcome_in l g step).kept (outcome_in l g step).change
told_kept l g (Call caller asked appended.Kept) = refl
told_kept l g (Call caller asked append) = refl
told_kept l g step = refl

one_unlost : (l : Limits) (g : Flat) (step : Step) → tells_failed step ≡ false → is_lost (outcome_in l g step) ≡ false
one_unlost l g (Call caller asked appended.Kept) none = and_false (is_some (change_of_call l g caller asked))
  where
    and_false : (b : Bool) → (b && false) ≡ false
    and_false true = refl
    and_false false = refl
one_unlost l g (Call caller asked appended.Failed) none = absurd cc
one_unlost l g (Call caller asked appended.NotAsked) none = refl
one_unlost l g step none = refl

all_unlost : (l : Limits) (f : Flat) (es : List Entry) → list_any (λ (e : Entry). tells_failed e.1) es ≡ false
    → list_any is_lost (outcomes l f es) ≡ false
unfolding outcomes
all_unlost l f [] none = refl
all_unlost l f (e ∷ es) none =
    let g = (step_of l f e.0 e.1).flat in
    let parts = or_parts (tells_failed e.1) (list_any (λ (e : Entry). tells_failed e.1) es) none in
    or_from (is_lost (outcome_in l f e.1)) (list_any is_lost (outcomes l g es)) (one_unlost l f e.1 parts.0) (all_unlost l g es parts.1)

changes_kept : (l : Limits) (f : Flat) (es : List Entry) → kept_changes l f es ≡ kept_among (outcomes l f es)
unfolding kept_changes outcomes
changes_kept l f [] = refl
changes_kept l f (e ∷ es) =
    let after = (step_of l f e.0 e.1).flat in
    ap (λ (c : Option Change). one_or_none c ++ kept_changes l after es) (told_kept l f e.1)
    ∙ ap (λ (changes : List Change). one_or_none (if_kept (outcome_in l f e.1).kept (outcome_in l f e.1).change) ++ changes)
    (changes_kept l after es)

pub law_of_outcomes : (l : Limits) (f : Flat) → LawOfOutcomes l f
law_of_outcomes l f = record {
  kept = was_kept l;
  failed = has_failed l;
  unasked = not_asked l;
  none = outcomes_none l f;
  more = λ es e. outcomes_behind l f es (e ∷ [])
      ∙ ap (λ (outs : List Outcome). outcomes l f es ++ outs) (outcome_one l (run_state l f es) e
      ∙ ap (λ g. outcome_in l g e.1 ∷ []) (sym (state_is l f es)));
  appended = λ front rest. outcomes_behind l f front rest
      ∙ ap (λ g. outcomes l f front ++ outcomes l g rest) (sym (state_is l f front));
  long = outcomes_long l f;
  unlost = all_unlost l f;
  changes = changes_kept l f;
}
