-- What each step does to the count of owed steps.
use Rattle.std.specs.Prelude.{ℕ, ◌≡◌, ◌+◌, ◌≤◌, ◌⊎◌, true, false, IsTrue, List, [], ◌∷◌}
use Rattle.scm_model.specs.declared.flat.Flat.{Flat}
use Rattle.scm_model.specs.declared.flat.Limits.{Limits}
use Rattle.scm_model.specs.declared.steps.Answer.{Answer}
use Rattle.scm_model.specs.declared.steps.Step.{Step}
use Rattle.scm_model.specs.Purge.{purged}
use Rattle.scm_model.specs.Entries.{Entry}
use Rattle.scm_rules.specs.Steps.{effect_of, step_of}
use Rattle.scm_model.specs.Texts.{text_of}
use Rattle.start_plan.specs.Settle.{settled}
use Rattle.scm_rules.specs.Owed.{owed}
use Rattle.scm_rules.specs.Room.{debt, has_room, is_owed, need}
use Rattle.scm_rules.specs.Valid.{IsValid}

-- what a step that isn't owed makes owed is less by 1 at least than what it may add and leave owed, which is at most its need in a state
-- that is valid
abbrev pub EffectsOwe : Type 0
EffectsOwe =
    (l : Limits) (f : Flat) (step : Step) → is_owed step ≡ false
    → (owed (effect_of l f step).flat + 1 ≤ owed f + debt f step) × (IsValid l f → debt f step ≤ need f step)

-- settling and the purge make nothing owed
abbrev pub SettlingOwesNothing : Type 0
SettlingOwesNothing = (l : Limits) (f : Flat) → owed (purged (settled l f)) ≤ owed f

-- over a step: an owed one pays for itself, and another leaves owed what it may add and leave owed at most, apart from itself, which is
-- at most its need
pub record LawOfOwed (before : Flat) (e : Entry) (told : Answer) (after : Flat) : Type 0 where
  pub pays : owed after + 1 ≤ owed before + debt before e.1
  pub fits : is_owed e.1 ≡ false → debt before e.1 ≤ need before e.1

-- each entry is owed, or found room in the state before it, after so many steps with so much text
abbrev pub FoundRoom : Limits → Flat → (steps text : ℕ) → List Entry → Type 0
FoundRoom l f steps text [] = Unit {0}
FoundRoom l f steps text (e ∷ es) =
    ((is_owed e.1 ≡ true) ⊎ IsTrue (has_room l f steps text e.1)) × FoundRoom l (step_of l f e.0 e.1).flat (steps + 1) (text
    + text_of e.1) es
