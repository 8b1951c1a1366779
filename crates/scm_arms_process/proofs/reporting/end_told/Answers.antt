use Rattle.std.proofs.Common.{ℕ, ◌≡◌, ◌∙◌, cond, true, false, List, [], ◌∷◌, Option, None, Some, ap, find, refl, sym}
use Rattle.scm_model.specs.declared.flat.Service.{Service}
use Rattle.scm_model.specs.declared.steps.Answer.{Answer}
use Rattle.scm_model.specs.declared.steps.Answer.TheVariants as answer
use Rattle.scm_model.specs.Processes.{currents, is_by}
use Rattle.scm_rules.specs.Ends.{end_told}
use Rattle.scm_arms_process.proofs.reporting.end_told.Goals as goal

abbrev told_of : Option Service → Answer
told_of None = answer.Stale
told_of (Some row) = answer.Done

-- an end is told of the first service whose current process it is
told_first : (process : ℕ) (rows : List Service) → end_told (currents process rows) ≡ told_of (find (is_by process) rows)
told_first process [] = refl
told_first process (row ∷ rows) =
    elim (is_by process row) as (λ b. end_told (cond b (row ∷ currents process rows) (currents process rows))
    ≡ told_of (cond b (Some row) (find (is_by process) rows))) [ true ↦ refl | false ↦ told_first process rows ]

pub returns-in-Some : goal.returns-in-Some
returns-in-Some c =
    ap told_of c.in-Some.ensures ∙ sym (told_first c.args.process c.args.tables.now.flat.services)

pub returns-in-None : goal.returns-in-None
returns-in-None c =
    ap told_of c.in-None.ensures ∙ sym (told_first c.args.process c.args.tables.now.flat.services)
