-- A step's change within a turn.
use Rattle.std.proofs.Common.{ℕ, ◌≡◌, Bool, true, false, List, [], ◌∷◌, ◌++◌, Option, Some, None, refl, sym, subst}
use Rattle.std.proofs.lemmas.List.Sums.{fold-append}
use Rattle.std.specs.Prelude.{option_map}
use Rattle.record_journal.specs.Crashes.{AreCrashes, Crashes}
use Rattle.record_journal.specs.Bearing.{Bears, BearsLost, BearsMore, IsKept, KeptIn, MovesOn, Stands, Stood, with_change, with_lost}
use Rattle.journal_lasting.specs.Lasting.{TurnLeaves, stood_after, with_outcome}
use Rattle.scm_model.specs.declared.steps.Change.{Change}
use Rattle.record_journal.specs.declared.journal.Journal.{Journal}
use Rattle.record_journal.proofs.Moving.{same_moment}
use Rattle.scm_history.specs.Outcomes.{Outcome, outcome_of}

-- a settled keeper that bears something leaves just that
pub settled_stands : (s : Stood) (j : Journal) (held : Option (List ℕ)) (settled : Type 0) (c : Crashes) → AreCrashes held c settled
    → settled → Bears (Some s) j held → Stands s c
settled_stands s j None settled c law so bears = absurd bears
settled_stands s j (Some now) settled c law so bears = λ y left.
    subst (λ (z : List ℕ). IsKept s z) (sym (law.only_held so now y refl left)) bears.kept

module _ (change : Change) (j j' : Journal) (told told' : Option (List ℕ)) (settled : Type 0) (a b : Crashes)
    (moves : MovesOn change j told a b) where
  pub turn_kept : AreCrashes told' b settled → settled → BearsMore change j told j' told' → (s : Stood) → Bears (Some s) j told
      → Stands s a → TurnLeaves s (outcome_of change true) a b
  unfolding MovesOn BearsMore
  turn_kept law so more s bears stands = record {
    moments = moves s bears stands;
    now = settled_stands (with_change s change) j' told' settled b law so (more (Some s) bears);
  }

  pub turn_lost : (s : Stood) → Bears (Some s) j told → Stands s a → TurnLeaves s (outcome_of change false) a b
  unfolding MovesOn
  turn_lost s bears stands = record { moments = moves s bears stands; now = (moves s bears stands).now }

pub turn_none : (s : Stood) (kept : Bool) (c : Crashes) → Stands s c → TurnLeaves s (record { change = None; kept = kept }) c c
turn_none s kept c stands = record { moments = same_moment (IsKept s) c stands; now = stands }

pub bears_more : (change : Change) (j j' : Journal) (told told' : Option (List ℕ)) → BearsMore change j told j' told' → (s : Option Stood)
    → Bears s j told → Bears (option_map (λ s. with_change s change) s) j' told'
unfolding BearsMore
bears_more change j j' told told' more s bears = more s bears

pub bears_lost : (change : Change) (j j' : Journal) (told told' : Option (List ℕ)) → BearsLost change j told j' told' → (s : Option Stood)
    → Bears s j told → Bears (option_map (λ s. with_lost s change) s) j' told'
unfolding BearsLost
bears_lost change j j' told told' lost s bears = lost s bears

pub same_bears : (s : Option Stood) (kept : Bool) (j : Journal) (told : Option (List ℕ)) → Bears s j told
    → Bears (option_map (λ s. with_outcome s (record { change = None; kept = kept })) s) j told
same_bears None kept j told bears = tt
same_bears (Some s) kept j told bears = bears

-- ## Between two turns

-- what stands behind one step more
pub stood_behind : (s : Stood) (outs : List Outcome) (o : Outcome) → stood_after s (outs ++ o ∷ []) ≡ with_outcome (stood_after s outs) o
stood_behind s outs o = fold-append with_outcome s outs (o ∷ [])

pub bears_behind : (s : Option Stood) (outs : List Outcome) (o : Outcome) (j : Journal) (told : Option (List ℕ))
    → Bears (option_map (λ s. with_outcome s o) (option_map (λ s. stood_after s outs) s)) j told
    → Bears (option_map (λ s. stood_after s (outs ++ o ∷ [])) s) j told
bears_behind None outs o j told bears = tt
bears_behind (Some s) outs o j told bears = subst (λ (t : Stood). Bears (Some t) j told) (sym (stood_behind s outs o)) bears

pub closed : (s : Option Stood) (j : Journal) (told : Option (List ℕ)) → Bears s j told → KeptIn s told
closed None j told bears = tt
closed (Some s) j None bears = bears
closed (Some s) j (Some now) bears = bears.kept
