-- The entries that make or name a caller or a process, with what they were told.
use Rattle.std.specs.Prelude.{ℕ, Bool, ◌≡◌, ◌||◌, ◌++◌, true, false, List, [], ◌∷◌, Some, length, map, if◌then◌else◌}
use Rattle.scm_model.specs.declared.flat.Flat.{Flat}
use Rattle.scm_model.specs.declared.flat.Limits.{Limits}
use Rattle.scm_model.specs.declared.steps.Answer.{Answer}
use Rattle.scm_model.specs.declared.steps.Name.{Name}
use Rattle.scm_model.specs.declared.steps.Name.TheVariants as names
use Rattle.scm_model.specs.declared.steps.Step.{Step}
use Rattle.scm_model.specs.Entries.{Entry}
use Rattle.scm_rules.specs.Histories.{answer, state}
use Rattle.scm_rules.specs.Named.{makes_caller, names_caller, names_process, of_caller, takes_process}
use Rattle.scm_rules.specs.Steps.{step_of}
use Rattle.scm_history.specs.Callers.{takes_leave}
use Rattle.scm_history.specs.Places.{takes_away}

-- an entry, and what it was told
pub record Made : Type 0 where
  pub entry : Entry
  pub told : Answer

abbrev pub made_of : Entry → Answer → Made
made_of e told = record { entry = e; told = told }

-- whether a step makes or names a caller, or takes the launch of a process or names it, in the state before it
abbrev pub is_by_name : Flat → Name → Step → Bool
is_by_name f (names.Caller caller) step = names_caller caller step || makes_caller f caller step
is_by_name f (names.Process process) step = names_process process step || takes_process f process step

-- the entries of a name. Its law says all that is to be known of it, so nobody need open it
unfoldable pub own : Limits → Flat → Name → List Entry → List Made
own l f name [] = []
own l f name (e ∷ es) =
    let step = step_of l f e.0 e.1 in
    if is_by_name f name e.1 then made_of e step.answer ∷ own l step.flat name es else own l step.flat name es

-- one entry more is one more where it is of the name, and else changes nothing; a caller's are those that its history has
pub record LawOfOwn (l : Limits) (f : Flat) : Type 0 where
  pub none : (name : Name) → own l f name [] ≡ []
  pub more : (name : Name) (es : List Entry) (e : Entry) (told : Answer) → is_by_name (state l f es) name e.1 ≡ true
      → answer l f (es ++ e ∷ []) (length es) ≡ Some told → own l f name (es ++ e ∷ []) ≡ own l f name es ++ made_of e told ∷ []
  pub quiet : (name : Name) (es : List Entry) (e : Entry) → is_by_name (state l f es) name e.1 ≡ false
      → own l f name (es ++ e ∷ []) ≡ own l f name es
  pub callers : (caller : ℕ) (es : List Entry) → map (λ (one : Made). one.entry)
      (own l f (names.Caller caller) es) ≡ of_caller l f caller es

-- whether a step is the last of a name: a caller goes, a process ends or could not be launched
abbrev pub is_last_of : Name → Step → Bool
is_last_of (names.Caller caller) step = takes_leave caller step
is_last_of (names.Process process) step = takes_away process step

-- after it nothing is of that name
abbrev pub LastsOnce : Limits → Flat → List Entry → Type 0
LastsOnce l f es =
    (name : Name) (front : List Entry) (e : Entry) (rest : List Entry) → es ≡ front ++ e ∷ rest → is_last_of name e.1 ≡ true
    → own l f name es ≡ own l f name (front ++ e ∷ [])
