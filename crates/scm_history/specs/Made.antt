-- Who an entry names was made by an entry before it.
use Rattle.std.specs.Prelude.{◌≡◌, ◌++◌, IsTrue, IfSome, List, ◌∷◌}
use Rattle.scm_model.specs.declared.flat.Flat.{Flat}
use Rattle.scm_model.specs.declared.flat.Limits.{Limits}
use Rattle.scm_model.specs.declared.steps.Step.{Step}
use Rattle.scm_model.specs.declared.steps.Step.TheVariants.{EndStart}
use Rattle.scm_model.specs.Entries.{Entry}
use Rattle.scm_rules.specs.Named.{caller_named, process_named, has_begun, has_made, has_taken}

-- a start is answered that a Call of the same caller began
abbrev pub AnswersItsOwn : Limits → Flat → List Entry → Step → Type 0
AnswersItsOwn l f front (EndStart caller plan) = IsTrue (has_begun l f caller plan front)
AnswersItsOwn l f front step = Unit {0}

-- after this front an entry names a caller that a Joined of the front made, and a process that a LaunchTaken of the front took; it answers
-- a start that a Call of the front began
pub record StandsBehind (l : Limits) (f : Flat) (front : List Entry) (e : Entry) : Type 0 where
  pub caller : IfSome (caller_named e.1) (λ number. IsTrue (has_made l f number front))
  pub process : IfSome (process_named e.1) (λ number. IsTrue (has_taken l f number front))
  pub start : AnswersItsOwn l f front e.1

-- so it is with each entry of a history
abbrev pub EachStandsBehind : Limits → Flat → List Entry → Type 0
EachStandsBehind l f es = (front : List Entry) (e : Entry) (rest : List Entry) → es ≡ front ++ e ∷ rest → StandsBehind l f front e
