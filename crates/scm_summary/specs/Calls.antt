-- How many callers joined in a history, and how many calls each of them made, raises among them.
use Rattle.std.specs.Prelude.{ℕ, zero, suc, ◌+◌, ◌==◌, List, [], ◌∷◌, Option, None, Some, if◌then◌else◌}
use Rattle.scm_model.specs.declared.steps.Step.{Step}
use Rattle.scm_model.specs.declared.steps.Step.TheVariants.{Call, Joined, NoMemory, Raised}
use Rattle.scm_model.specs.Entries.{Entry}

-- 1 where a step joins a caller
abbrev pub one_joined : Step → ℕ
one_joined (Joined principal) = 1
one_joined step = 0

abbrev pub joined_in : List Entry → ℕ
joined_in [] = 0
joined_in (e ∷ es) = one_joined e.1 + joined_in es

-- the caller whose call or raise a step is, whether or not there was memory for it
abbrev pub calling : Step → Option ℕ
calling (Call caller request append) = Some caller
calling (Raised caller subtype) = Some caller
calling (NoMemory caller) = Some caller
calling step = None

abbrev pub one_if_its : ℕ → Option ℕ → ℕ
one_if_its caller None = 0
one_if_its caller (Some of) = if of == caller then 1 else 0

-- how many calls the caller made
abbrev pub calls_of : ℕ → List Entry → ℕ
calls_of caller [] = 0
calls_of caller (e ∷ es) = one_if_its caller (calling e.1) + calls_of caller es

-- the same of so many callers, from this one on
abbrev pub calls_from : List Entry → ℕ → ℕ → List ℕ
calls_from h caller zero = []
calls_from h caller (suc count) = calls_of caller h ∷ calls_from h (caller + 1) count
