-- The changes whose append failed since the last that was kept.
use Rattle.std.proofs.Common.{◌≡◌, ◌⊎◌, ⊎_elim, inl, inr, Bool, true, false, List, [], ◌∷◌, ◌++◌, Option, None, Some, refl, sym, ap, subst}
use Rattle.scm_model.specs.declared.flat.Flat.{Flat}
use Rattle.scm_model.specs.declared.flat.Limits.{Limits}
use Rattle.scm_model.specs.declared.steps.Change.{Change}
use Rattle.scm_model.specs.declared.steps.Kept.TheVariants as appended
use Rattle.scm_model.specs.declared.steps.Step.{Step}
use Rattle.scm_model.specs.declared.steps.Step.TheVariants.{Call}
use Rattle.scm_model.specs.Entries.{Entry}
use Rattle.record_journal.specs.Bearing.{IsAmong, Stood}
use Rattle.scm_rules.specs.Runs.{run_state}
use Rattle.scm_rules.specs.Steps.{step_of}
use Rattle.scm_rules.specs.Verdicts.{change_of}
use Rattle.scm_history.specs.Kept.{one_or_none}
use Rattle.scm_history.specs.Outcomes.{Outcome, if_kept, kept_among, outcome_in, outcome_of, outcomes}
use Rattle.journal_lasting.specs.Lasting.{stood_after, with_outcome, with_told}

-- ## Where an append failed

-- a change's append failed after this front, and nothing was kept since
pub record LostAt (outs : List Outcome) (change : Change) : Type 0 where
  pub front : List Outcome
  pub rest : List Outcome
  pub is : outs ≡ front ++ outcome_of change false ∷ rest
  pub changes : kept_among outs ≡ kept_among front

-- it failed before, and nothing was kept since
pub record LostBefore (s : Stood) (outs : List Outcome) (change : Change) : Type 0 where
  pub lost : IsAmong change s.lost
  pub changes : kept_among outs ≡ []

later : (o : Outcome) (outs : List Outcome) (change : Change) → LostAt outs change → LostAt (o ∷ outs) change
later o outs change at = record {
  front = o ∷ at.front;
  rest = at.rest;
  is = ap (λ (l : List Outcome). o ∷ l) at.is;
  changes = ap (λ (l : List Change). one_or_none (if_kept o.kept o.change) ++ l) at.changes;
}

step : (s : Stood) (told : Option Change) (kept : Bool) (outs : List Outcome) (change : Change)
    → LostBefore (with_told kept s told) outs change
    → LostAt (record { change = told; kept = kept } ∷ outs) change ⊎ LostBefore s (record { change = told; kept = kept } ∷ outs) change
step s None true outs change before = inr (record { lost = before.lost; changes = before.changes })
step s None false outs change before = inr (record { lost = before.lost; changes = before.changes })
step s (Some made) true outs change before = absurd before.lost
step s (Some made) false outs change before = ⊎_elim
    (λ (same : change ≡ made). inl (record {
      front = [];
      rest = outs;
      is = ap (λ (c : Change). outcome_of c false ∷ outs) (sym same);
      changes = before.changes;
    }))
    (λ (lost : IsAmong change s.lost). inr (record { lost = lost; changes = before.changes }))
    before.lost

found : (s : Stood) (outs : List Outcome) (change : Change) → IsAmong change (stood_after s outs).lost
    → LostAt outs change ⊎ LostBefore s outs change
found s [] change lost = inr (record { lost = lost; changes = refl })
found s (o ∷ outs) change lost = ⊎_elim (λ (at : LostAt outs change). inl (later o outs change at))
    (λ (before : LostBefore (with_outcome s o) outs change). step s o.change o.kept outs change before)
    (found (with_outcome s o) outs change lost)

none_before : (s : Stood) (outs : List Outcome) (change : Change) → s.lost ≡ [] → LostBefore s outs change → ⊥
none_before s outs change none before = subst (IsAmong change) none before.lost

-- where nothing was lost before
pub lost_at : (s : Stood) (outs : List Outcome) (change : Change) → s.lost ≡ [] → IsAmong change (stood_after s outs).lost
    → LostAt outs change
lost_at s outs change none lost = ⊎_elim (λ (at : LostAt outs change). at)
    (λ (before : LostBefore s outs change). absurd (none_before s outs change none before))
    (found s outs change lost)

-- ## The entries of outcomes

-- a front of a history and the rest have these outcomes
pub record Parted (l : Limits) (f : Flat) (es : List Entry) (fronts rests : List Outcome) : Type 0 where
  pub front : List Entry
  pub rest : List Entry
  pub is : es ≡ front ++ rest
  pub of_front : outcomes l f front ≡ fronts
  pub of_rest : outcomes l (run_state l f front) rest ≡ rests

-- with one entry more before them
parted_behind : (l : Limits) (f : Flat) (e : Entry) (es : List Entry) (o : Outcome) (fronts rests : List Outcome)
    → outcome_in l f e.1 ≡ o → Parted l (step_of l f e.0 e.1).flat es fronts rests → Parted l f (e ∷ es) (o ∷ fronts) rests
unfolding outcomes
parted_behind l f e es o fronts rests head p = record {
  front = e ∷ p.front;
  rest = p.rest;
  is = ap (λ (l' : List Entry). e ∷ l') p.is;
  of_front = (λ i. head i ∷ p.of_front i);
  of_rest = p.of_rest;
}

pub parted : (l : Limits) (f : Flat) (es : List Entry) (fronts rests : List Outcome) → outcomes l f es ≡ fronts ++ rests
    → Parted l f es fronts rests
unfolding outcomes
parted l f es [] rests is = record { front = []; rest = es; is = refl; of_front = refl; of_rest = is }
parted l f [] (o ∷ fronts) rests is = absurd cc
parted l f (e ∷ es) (o ∷ fronts) rests is =
    let g = (step_of l f e.0 e.1).flat in
    let head : outcome_in l f e.1 ≡ o = cc in
    let tail : outcomes l g es ≡ fronts ++ rests = cc in
    parted_behind l f e es o fronts rests head (parted l g es fronts rests tail)

-- the first of some entries has the first of their outcomes
pub record Heads (l : Limits) (f : Flat) (es : List Entry) (o : Outcome) : Type 0 where
  pub entry : Entry
  pub rest : List Entry
  pub is : es ≡ entry ∷ rest
  pub outcome : outcome_in l f entry.1 ≡ o

pub heads : (l : Limits) (f : Flat) (es : List Entry) (o : Outcome) (rests : List Outcome) → outcomes l f es ≡ o ∷ rests → Heads l f es o
unfolding outcomes
heads l f [] o rests is = absurd cc
heads l f (e ∷ es) o rests is = record { entry = e; rest = es; is = refl; outcome = cc }

-- what a step tells of a change that it makes
pub change_told : (l : Limits) (g : Flat) (s : Step) (change : Change) → (outcome_in l g s).change ≡ Some change
    → change_of l g s ≡ Some change
change_told l g (Call caller asked appended.Kept) change is = is
change_told l g (Call caller asked appended.Failed) change is = is
change_told l g (Call caller asked appended.NotAsked) change is = absurd cc
change_told l g s change is = absurd cc
