-- What a crash may have left at each moment of a run.
use Rattle.std.specs.Prelude.{ℕ, ◌≡◌, ◌≤◌, Bool, true, false, List, [], ◌∷◌, ◌++◌, fold, length, Option, None, Some}
use Rattle.scm_model.specs.declared.steps.Change.{Change}
use Rattle.record_journal.specs.Bearing.{IsKept, Stands, Stood, with_change, with_lost}
use Rattle.record_journal.specs.Crashes.{Crashes, EachLeaves}
use Rattle.scm_history.specs.Outcomes.{Outcome, kept_among}

abbrev pub with_made : Bool → Stood → Change → Stood
with_made true s change = with_change s change
with_made false s change = with_lost s change

abbrev pub with_told : Bool → Stood → Option Change → Stood
with_told kept s None = s
with_told kept s (Some change) = with_made kept s change

-- what stands once a step has told what became of its change
abbrev pub with_outcome : Stood → Outcome → Stood
with_outcome s o = with_told o.kept s o.change

-- while the append of a change is in progress
abbrev pub with_asked : Stood → Option Change → Stood
with_asked s change = with_told false s change

abbrev pub stood_after : Stood → List Outcome → Stood
stood_after s outs = fold with_outcome s outs

-- the change of the step that comes next, if one does
abbrev pub next_change : List Outcome → Option Change
next_change [] = None
next_change (o ∷ rest) = o.change

-- One turn that makes a step: a crash at a moment of it leaves what was kept, and of the step's change a part or all; and after it what is
-- kept.
pub record TurnLeaves (s : Stood) (o : Outcome) (old new : Crashes) : Type 0 where
  pub moments : EachLeaves (IsKept (with_asked s o.change)) old new
  pub now : Stands (with_outcome s o) new

-- a content is what is kept of a front of the steps, of which so many at least, and perhaps a part or all of the one that was in progress
pub record IsOfFront (s : Stood) (outs : List Outcome) (least : ℕ) (x : List ℕ) : Type 0 where
  pub front : List Outcome
  pub rest : List Outcome
  pub is : outs ≡ front ++ rest
  pub all : least ≤ length front
  pub kept : IsKept (with_asked (stood_after s front) (next_change rest)) x

-- Between two turns: a crash now leaves what is kept of all steps. After so many steps it was this moment, the first that of the opening;
-- and a crash since then might have left nothing but what is kept of a front of all steps that has these.
pub record HasLasted (s : Stood) (opened : ℕ) (outs : List Outcome) (now : Crashes) : Type 0 where
  pub stands : Stands (stood_after s outs) now
  pub moments : ℕ → ℕ
  pub first : moments 0 ≡ opened
  pub past : (n : ℕ) → n ≤ length outs → moments n ≤ now.moment
  pub each : (n : ℕ) → n ≤ length outs → (x : List ℕ) → now.left_since (moments n) x → IsOfFront s outs n x

-- ## What was kept of a run

-- the same bytes, in the same form
pub record IsAlike (s t : Stood) : Type 0 where
  pub bytes : s.bytes ≡ t.bytes
  pub form : s.form ≡ t.form

-- what stands after a run is what the changes that were kept come to
abbrev pub StandsByKept : Stood → List Outcome → Type 0
StandsByKept s outs = IsAlike (stood_after s outs) (fold with_change s (kept_among outs))
