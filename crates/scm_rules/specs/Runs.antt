-- Runs: entries one after another.
use Rattle.std.specs.Prelude.{IsTrue, List, [], ◌∷◌}
use Rattle.scm_model.specs.declared.flat.Flat.{Flat}
use Rattle.scm_model.specs.declared.flat.Limits.{Limits}
use Rattle.scm_model.specs.declared.steps.Answer.{Answer}
use Rattle.scm_model.specs.Entries.{Entry}
use Rattle.scm_rules.specs.Steps.{step_of, may}

-- the state that a run ends in
abbrev pub run_state : Limits → Flat → List Entry → Flat
run_state l f [] = f
run_state l f (e ∷ es) = run_state l (step_of l f e.0 e.1).flat es

-- each entry may be made in the state before it
abbrev pub IsLegal : Limits → Flat → List Entry → Type 0
IsLegal l f [] = Unit {0}
IsLegal l f (e ∷ es) = IsTrue (may l f e.0 e.1) × IsLegal l (step_of l f e.0 e.1).flat es

-- a fact of each step of a run: of the state before, the entry, its answer and the state after
abbrev pub EachStep : (Flat → Entry → Answer → Flat → Type 0) → Limits → Flat → List Entry → Type 0
EachStep P l f [] = Unit {0}
EachStep P l f (e ∷ es) =
    P f e (step_of l f e.0 e.1).answer (step_of l f e.0 e.1).flat × EachStep P l (step_of l f e.0 e.1).flat es
