-- The entries of one caller.
use Rattle.std.specs.Prelude.{ℕ, Bool, ◌≡◌, true, false, IsTrue, List, [], ◌∷◌, filter}
use Rattle.scm_model.specs.declared.flat.Flat.{Flat}
use Rattle.scm_model.specs.declared.flat.Limits.{Limits}
use Rattle.scm_model.specs.declared.steps.Step.{Step}
use Rattle.scm_model.specs.declared.steps.Step.TheVariants.{Joined}
use Rattle.scm_model.specs.Entries.{Entry}
use Rattle.scm_rules.specs.Named.{names_caller, of_caller}

abbrev pub is_joined : Step → Bool
is_joined (Joined principal) = true
is_joined step = false

-- the entries that name a caller
abbrev pub named_entries : ℕ → List Entry → List Entry
named_entries caller es = filter (λ (e : Entry). names_caller caller e.1) es

-- first comes a Joined, and then each entry of the history that names the caller
pub record JoinsFirst (caller : ℕ) (es : List Entry) (first : Entry) (later : List Entry) : Type 0 where
  pub joins : IsTrue (is_joined first.1)
  pub names : later ≡ named_entries caller es

-- where there are none, no entry names the caller
abbrev pub BeginsWithJoined : ℕ → List Entry → List Entry → Type 0
BeginsWithJoined caller es [] = named_entries caller es ≡ []
BeginsWithJoined caller es (first ∷ later) = JoinsFirst caller es first later

-- so it is with the entries of each caller of a history
abbrev pub EachBeginsWithJoined : Limits → Flat → List Entry → Type 0
EachBeginsWithJoined l f es = (caller : ℕ) → BeginsWithJoined caller es (of_caller l f caller es)
