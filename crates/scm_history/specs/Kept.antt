-- The changes of a history that were kept.
use Rattle.std.specs.Prelude.{◌≡◌, ◌++◌, List, [], ◌∷◌, Option, None, Some}
use Rattle.scm_model.specs.declared.flat.Flat.{Flat}
use Rattle.scm_model.specs.declared.flat.Limits.{Limits}
use Rattle.scm_model.specs.declared.steps.Change.{Change}
use Rattle.scm_model.specs.declared.steps.Kept.TheVariants as appended
use Rattle.scm_model.specs.declared.steps.Step.{Step}
use Rattle.scm_model.specs.declared.steps.Step.TheVariants.{Call}
use Rattle.scm_model.specs.Entries.{Entry, with_kept}
use Rattle.scm_rules.specs.Histories.{state}
use Rattle.scm_rules.specs.Steps.{step_of}
use Rattle.scm_rules.specs.Verdicts.{change_of, change_of_call}

-- the change of a step that tells that it was kept, in the state before it
abbrev pub kept_change : Limits → Flat → Step → Option Change
kept_change l f (Call caller asked appended.Kept) = change_of_call l f caller asked
kept_change l f step = None

abbrev pub one_or_none : Option Change → List Change
one_or_none None = []
one_or_none (Some change) = change ∷ []

-- the changes that were kept, in order. Its law says all that is to be known of it, so nobody need open it
unfoldable pub kept_changes : Limits → Flat → List Entry → List Change
kept_changes l f [] = []
kept_changes l f (e ∷ es) = one_or_none (kept_change l f e.1) ++ kept_changes l (step_of l f e.0 e.1).flat es

-- the change of a step that is kept is the one that it would make, and one that isn't kept has none; one entry more adds its change
pub record LawOfKept (l : Limits) (f : Flat) : Type 0 where
  pub kept : (g : Flat) (step : Step) → kept_change l g (with_kept step appended.Kept) ≡ change_of l g step
  pub failed : (g : Flat) (step : Step) → kept_change l g (with_kept step appended.Failed) ≡ None
  pub unasked : (g : Flat) (step : Step) → kept_change l g (with_kept step appended.NotAsked) ≡ None
  pub none : kept_changes l f [] ≡ []
  pub more : (es : List Entry) (e : Entry) → kept_changes l f (es ++ e ∷ []) ≡ kept_changes l f es
      ++ one_or_none (kept_change l (state l f es) e.1)
