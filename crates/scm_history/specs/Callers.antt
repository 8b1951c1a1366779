-- A caller is in the state from its Joined until its Gone.
use Rattle.std.specs.Prelude.{ℕ, Bool, ◌≡◌, ◌<◌, ◌==◌, ◌++◌, false, IsTrue, IfSome, List, ◌∷◌}
use Rattle.scm_model.specs.declared.flat.Flat.{Flat}
use Rattle.scm_model.specs.declared.flat.Limits.{Limits}
use Rattle.scm_model.specs.declared.steps.Answer.{Answer}
use Rattle.scm_model.specs.declared.steps.Step.{Step}
use Rattle.scm_model.specs.declared.steps.Step.TheVariants.{Gone}
use Rattle.scm_model.specs.Rows.{is_caller}
use Rattle.scm_rules.specs.Histories.{state}
use Rattle.scm_model.specs.Entries.{Entry}
use Rattle.scm_rules.specs.Named.{caller_made}

-- whether a step is the going of a caller
abbrev pub takes_leave : ℕ → Step → Bool
takes_leave number (Gone caller) = number == caller
takes_leave number step = false

-- who joins is there; who is there stays but by its Gone, which takes it away; and who was given a number and isn't there stays away
pub record CallersStay (before : Flat) (e : Entry) (told : Answer) (after : Flat) : Type 0 where
  pub joined : IfSome (caller_made before e.1) (λ number. IsTrue (is_caller after number))
  pub others : (number : ℕ) → takes_leave number e.1 ≡ false → IsTrue (is_caller before number) → IsTrue (is_caller after number)
  pub gone : (number : ℕ) → IsTrue (takes_leave number e.1) → is_caller after number ≡ false
  pub away : (number : ℕ) → number < before.next.caller → is_caller before number ≡ false → is_caller after number ≡ false

-- after its Gone, and all that follows, a caller isn't in the state
abbrev pub IsGoneForGood : Limits → Flat → List Entry → Type 0
IsGoneForGood l f es =
    (number : ℕ) (front : List Entry) (e : Entry) (rest : List Entry) → es ≡ front ++ e ∷ rest → IsTrue (takes_leave number e.1)
    → is_caller (state l f es) number ≡ false
