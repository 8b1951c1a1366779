-- What each step keeps is true along every legal run.
use Rattle.std.proofs.Common.{IsTrue, List, [], ◌∷◌}
use Rattle.scm_model.specs.declared.flat.Flat.{Flat}
use Rattle.scm_model.specs.declared.flat.Limits.{Limits}
use Rattle.scm_model.specs.declared.steps.Answer.{Answer}
use Rattle.scm_rules.specs.Steps.{step_of, may}
use Rattle.scm_rules.specs.Runs.{IsLegal, EachStep, run_state}
use Rattle.scm_model.specs.Entries.{Entry}

-- what holds before a step that may be done holds after it
abbrev pub Keeps : (Flat → Type 0) → Limits → Type 0
Keeps I l = (f : Flat) (e : Entry) → I f → IsTrue (may l f e.0 e.1) → I (step_of l f e.0 e.1).flat

-- every step that may be done from a state where I holds has P
abbrev pub Gives : (Flat → Type 0) → (Flat → Entry → Answer → Flat → Type 0) → Limits → Type 0
Gives I P l = (f : Flat) (e : Entry) → I f → IsTrue (may l f e.0 e.1) → P f e (step_of l f e.0 e.1).answer (step_of l f e.0 e.1).flat

pub along : (I : Flat → Type 0) (P : Flat → Entry → Answer → Flat → Type 0) (l : Limits) → Keeps I l → Gives I P l
    → (f : Flat) (es : List Entry) → I f → IsLegal l f es → EachStep P l f es
along I P l keeps gives f [] i legal = tt
along I P l keeps gives f (e ∷ es) i legal =
    (gives f e i legal.0, along I P l keeps gives (step_of l f e.0 e.1).flat es (keeps f e i legal.0) legal.1)

pub at_end : (I : Flat → Type 0) (l : Limits) → Keeps I l → (f : Flat) (es : List Entry) → I f → IsLegal l f es → I (run_state l f es)
at_end I l keeps f [] i legal = i
at_end I l keeps f (e ∷ es) i legal = at_end I l keeps (step_of l f e.0 e.1).flat es (keeps f e i legal.0) legal.1
