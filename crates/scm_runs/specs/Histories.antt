-- What histories result in, in terms of their steps.
use Rattle.std.specs.Prelude.{ℕ, ◌≡◌, ◌≤◌, ◌++◌, List, [], ◌∷◌, None, Some, length}
use Rattle.scm_model.specs.declared.flat.Flat.{Flat}
use Rattle.scm_model.specs.declared.flat.Limits.{Limits}
use Rattle.scm_model.specs.declared.steps.Answer.{Answer}
use Rattle.scm_model.specs.Entries.{Entry}
use Rattle.scm_rules.specs.Histories.{answer, state}
use Rattle.scm_rules.specs.Steps.{step_of}

-- the state after an entry is what its step makes of the state before it
pub record LawOfStates (l : Limits) (f : Flat) : Type 0 where
  pub none : state l f [] ≡ f
  pub more : (es : List Entry) (e : Entry) → state l f (es ++ e ∷ []) ≡ (step_of l (state l f es) e.0 e.1).flat
  pub appended : (front rest : List Entry) → state l f (front ++ rest) ≡ state l (state l f front) rest

-- the answer to an entry is that of its step in the state before it, whatever comes later
pub record LawOfAnswers (l : Limits) (f : Flat) : Type 0 where
  pub told : (front : List Entry) (e : Entry) (rest : List Entry)
      → answer l f (front ++ e ∷ rest) (length front) ≡ Some (step_of l (state l f front) e.0 e.1).answer
  pub none : (es : List Entry) (place : ℕ) → length es ≤ place → answer l f es place ≡ None

-- a fact of each step of a run is one of each entry: of the state before it, the answer to it and the state after it
abbrev pub EachEntry : (Flat → Entry → Answer → Flat → Type 0) → Limits → Flat → List Entry → Type 0
EachEntry P l f es =
    (front : List Entry) (e : Entry) (rest : List Entry) (told : Answer) → es ≡ front ++ e ∷ rest → answer l f es (length front) ≡ Some told
    → P (state l f front) e told (state l f (front ++ e ∷ []))
