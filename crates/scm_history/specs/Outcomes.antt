-- What the steps of a history did with the changes that they make.
use Rattle.std.specs.Prelude.{◌≡◌, ◌&&◌, ◌++◌, Bool, true, false, not, List, [], ◌∷◌, Option, None, Some, is_some, length}
use Rattle.std.specs.List.{list_any}
use Rattle.scm_model.specs.declared.flat.Flat.{Flat}
use Rattle.scm_model.specs.declared.flat.Limits.{Limits}
use Rattle.scm_model.specs.declared.steps.Change.{Change}
use Rattle.scm_model.specs.declared.steps.Kept.TheVariants as appended
use Rattle.scm_model.specs.declared.steps.Step.{Step}
use Rattle.scm_model.specs.declared.steps.Step.TheVariants.{Call}
use Rattle.scm_model.specs.Entries.{Entry, with_kept}
use Rattle.scm_rules.specs.Histories.{state}
use Rattle.scm_rules.specs.Steps.{step_of}
use Rattle.scm_rules.specs.Verdicts.{change_of, change_of_call}
use Rattle.scm_history.specs.Kept.{kept_changes, one_or_none}

-- the change that a step makes, if it makes one, and whether it was kept; if not, its append failed
pub record Outcome : Type 0 where
  pub change : Option Change
  pub kept : Bool

-- of a step that makes no change
abbrev pub no_outcome : Outcome
no_outcome = record { change = None; kept = false }

-- of a step that makes this change
abbrev pub outcome_of : Change → Bool → Outcome
outcome_of change kept = record { change = Some change; kept = kept }

-- what a step tells of its change, in the state before it
abbrev pub outcome_in : Limits → Flat → Step → Outcome
outcome_in l f (Call caller asked appended.Kept) = record { change = change_of_call l f caller asked; kept = true }
outcome_in l f (Call caller asked appended.Failed) = record { change = change_of_call l f caller asked; kept = false }
outcome_in l f step = no_outcome

-- of each step of a history, in order. Its law says all that is to be known of it, so nobody need open it
unfoldable pub outcomes : Limits → Flat → List Entry → List Outcome
outcomes l f [] = []
outcomes l f (e ∷ es) = outcome_in l f e.1 ∷ outcomes l (step_of l f e.0 e.1).flat es

-- whether a step makes a change whose append failed
abbrev pub is_lost : Outcome → Bool
is_lost o = is_some o.change && not o.kept

-- whether a step tells that an append failed
abbrev pub tells_failed : Step → Bool
tells_failed (Call caller asked appended.Failed) = true
tells_failed step = false

-- the change, if it was kept
abbrev pub if_kept : Bool → Option Change → Option Change
if_kept true change = change
if_kept false change = None

-- the changes that were kept, in order
abbrev pub kept_among : List Outcome → List Change
kept_among [] = []
kept_among (o ∷ rest) = one_or_none (if_kept o.kept o.change) ++ kept_among rest

-- a step that makes a change tells what became of it, and one that wasn't asked has none; there is one outcome for each entry, one entry
-- more adds its own, further entries add theirs, the changes that were kept are those of which an outcome says so, and none is lost if no
-- entry tells that an append failed
pub record LawOfOutcomes (l : Limits) (f : Flat) : Type 0 where
  pub kept : (g : Flat) (step : Step) (change : Change) → change_of l g step ≡ Some change
      → outcome_in l g (with_kept step appended.Kept) ≡ outcome_of change true
  pub failed : (g : Flat) (step : Step) (change : Change) → change_of l g step ≡ Some change
      → outcome_in l g (with_kept step appended.Failed) ≡ outcome_of change false
  pub unasked : (g : Flat) (step : Step) → outcome_in l g (with_kept step appended.NotAsked) ≡ no_outcome
  pub none : outcomes l f [] ≡ []
  pub more : (es : List Entry) (e : Entry) → outcomes l f (es ++ e ∷ []) ≡ outcomes l f es ++ outcome_in l (state l f es) e.1 ∷ []
  pub appended : (front rest : List Entry) → outcomes l f (front ++ rest) ≡ outcomes l f front ++ outcomes l (state l f front) rest
  pub long : (es : List Entry) → length (outcomes l f es) ≡ length es
  pub unlost : (es : List Entry) → list_any (λ (e : Entry). tells_failed e.1) es ≡ false → list_any is_lost (outcomes l f es) ≡ false
  pub changes : (es : List Entry) → kept_changes l f es ≡ kept_among (outcomes l f es)
