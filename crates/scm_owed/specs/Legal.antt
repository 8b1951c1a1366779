-- What is to be known of histories.
use Rattle.std.specs.Prelude.{◌≡◌, ◌↔◌, ◌⊎◌, ◌≤◌, ◌++◌, true, IsTrue, List, [], ◌∷◌, length}
use Rattle.scm_model.specs.declared.flat.Flat.{Flat}
use Rattle.scm_model.specs.declared.flat.Limits.{Limits}
use Rattle.scm_model.specs.Entries.{Entry, text_in}
use Rattle.scm_rules.specs.Histories.{FitsOwed, Legal, state}
use Rattle.scm_rules.specs.Owed.{owed}
use Rattle.scm_rules.specs.Room.{has_room, is_owed}
use Rattle.scm_rules.specs.Runs.{IsLegal}
use Rattle.scm_rules.specs.Steps.{may}

-- an entry may be made after a history, and the limit has room for it
pub record MayFollow (l : Limits) (f : Flat) (es : List Entry) (e : Entry) : Type 0 where
  pub may : IsTrue (may l (state l f es) e.0 e.1)
  pub fits : FitsOwed l f (es ++ e ∷ [])

-- which histories are legal, from the empty one on, and what is true of those that are
pub record LawOfLegal (l : Limits) (f : Flat) : Type 0 where
  pub none : Legal l f [] ↔ (owed f ≤ l.steps)
  pub more : (es : List Entry) (e : Entry) → Legal l f (es ++ e ∷ []) ↔ (Legal l f es × MayFollow l f es e)
  pub front : (front rest : List Entry) → Legal l f (front ++ rest) → Legal l f front
  pub made : (es : List Entry) → Legal l f es → IsLegal l f es
  pub fits : (es : List Entry) → Legal l f es → FitsOwed l f es

-- a history stays legal with each entry more that may be made, and is owed or finds room
abbrev pub StaysLegal : Limits → Flat → List Entry → Type 0
StaysLegal l f es =
    (e : Entry) → IsTrue (may l (state l f es) e.0 e.1) → (is_owed e.1 ≡ true)
    ⊎ IsTrue (has_room l (state l f es) (length es) (text_in es) e.1)
    → Legal l f (es ++ e ∷ [])
