-- Entries of a history, and what a step tells of its change.
use Rattle.std.specs.Prelude.{ℕ, ◌+◌, List, [], ◌∷◌}
use Rattle.scm_model.specs.declared.steps.Kept.{Kept}
use Rattle.scm_model.specs.declared.steps.Kept.TheVariants.{NotAsked}
use Rattle.scm_model.specs.declared.steps.Step.{Step}
use Rattle.scm_model.specs.declared.steps.Step.TheVariants.{Call}
use Rattle.scm_model.specs.Texts.{text_of}

-- a moment and a step
abbrev pub Entry : Type 0
Entry = ℕ × Step

-- how much text a history has
abbrev pub text_in : List Entry → ℕ
text_in [] = 0
text_in (e ∷ es) = text_of e.1 + text_in es

-- a step that tells what became of its change
abbrev pub with_kept : Step → Kept → Step
with_kept (Call caller asked append) now = Call caller asked now
with_kept step now = step

-- a step before it is known whether its change was kept
abbrev pub unkept : Step → Step
unkept step = with_kept step NotAsked
