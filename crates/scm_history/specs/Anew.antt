-- What an entry makes was not made before.
use Rattle.std.specs.Prelude.{ℕ, ◌≡◌, ◌++◌, false, IfSome, List, ◌∷◌}
use Rattle.scm_model.specs.declared.flat.Flat.{Flat}
use Rattle.scm_model.specs.declared.flat.Limits.{Limits}
use Rattle.scm_rules.specs.Histories.{state}
use Rattle.scm_model.specs.Entries.{Entry}
use Rattle.scm_rules.specs.Steps.{step_of}
use Rattle.scm_rules.specs.Named.{caller_made, has_begun, has_made, has_taken, plan_made, process_taken}

-- after this front an entry makes a caller, takes the launch of a process or begins a plan that no entry of the front did
pub record MakesAnew (l : Limits) (f : Flat) (front : List Entry) (e : Entry) : Type 0 where
  pub joined : IfSome (caller_made (state l f front) e.1) (λ number. has_made l f number front ≡ false)
  pub taken : IfSome (process_taken (state l f front) e.1) (λ number. has_taken l f number front ≡ false)
  pub begun : IfSome (plan_made (step_of l (state l f front) e.0 e.1).answer) (λ number. (caller : ℕ)
      → has_begun l f caller number front ≡ false)

-- so it is with each entry of a history
abbrev pub EachMakesAnew : Limits → Flat → List Entry → Type 0
EachMakesAnew l f es = (front : List Entry) (e : Entry) (rest : List Entry) → es ≡ front ++ e ∷ rest → MakesAnew l f front e
