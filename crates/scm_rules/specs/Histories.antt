-- Histories: what they come to, and which are legal. Laws say all that is to be known of these definitions, so nobody need open them.
use Rattle.std.specs.Prelude.{ℕ, zero, suc, ◌≡◌, ◌+◌, ◌≤◌, ◌++◌, List, [], ◌∷◌, Option, None, Some, length}
use Rattle.scm_model.specs.declared.flat.Flat.{Flat}
use Rattle.scm_model.specs.declared.flat.Limits.{Limits}
use Rattle.scm_model.specs.declared.steps.Answer.{Answer}
use Rattle.scm_model.specs.Entries.{Entry}
use Rattle.scm_rules.specs.Owed.{owed}
use Rattle.scm_rules.specs.Runs.{IsLegal, run_state}
use Rattle.scm_rules.specs.Steps.{step_of}

-- the state that a history ends in
unfoldable pub state : Limits → Flat → List Entry → Flat
state l f es = run_state l f es

-- what the entry at a place was told, if there is one
unfoldable pub answer : Limits → Flat → List Entry → ℕ → Option Answer
answer l f [] place = None
answer l f (e ∷ es) zero = Some (step_of l f e.0 e.1).answer
answer l f (e ∷ es) (suc place) = answer l (step_of l f e.0 e.1).flat es place

-- the limit has room for a history and for all that is owed after it
abbrev pub FitsOwed : Limits → Flat → List Entry → Type 0
FitsOwed l f es = length es + owed (state l f es) ≤ l.steps

-- each entry may be made in the state before it, and the limit has room for the history and for each front of it
pub record IsLegalThroughout (l : Limits) (f : Flat) (es : List Entry) : Type 0 where
  pub made : IsLegal l f es
  pub fits : (front rest : List Entry) → es ≡ front ++ rest → FitsOwed l f front

unfoldable pub Legal : Limits → Flat → List Entry → Type 0
Legal l f es = IsLegalThroughout l f es
