-- The answer is Stale exactly if a report names no service whose current process it is, or an end is of no service's current process.
use Rattle.std.proofs.Common.{ℕ, ◌≡◌, ◌||◌, true, false, not, cond, List, [], ◌∷◌, Option, None, Some, Ok, Err, ap, refl}
use Rattle.std.specs.Prelude.{◌↔◌, is_none}
use Rattle.std.specs.List.{list_any}
use Rattle.scm_model.specs.Processes.{currents, is_by}
use Rattle.scm_model.specs.declared.flat.Flat.{Flat}
use Rattle.scm_model.specs.declared.flat.Limits.{Limits}
use Rattle.scm_model.specs.declared.flat.Service.{Service}
use Rattle.scm_model.specs.declared.flat.Status.{Status}
use Rattle.scm_model.specs.declared.steps.Answer.TheVariants as answer
use Rattle.scm_model.specs.declared.steps.Step.{Step}
use Rattle.scm_model.specs.declared.steps.Step.TheVariants.{Report, Ended}
use Rattle.start_plan.specs.Settle.{settled}
use Rattle.status_machine.specs.Moves.{takes}
use Rattle.scm_rules.specs.Ends.{end_told}
use Rattle.scm_rules.specs.Reports.{report_answer, report_told, reporting}
use Rattle.scm_rules.specs.Steps.{at_moment, effect_of, finished, step_of}
use Rattle.scm_runs.proofs.Along.{Gives}
use Rattle.scm_runs.proofs.Clear.{is_valid_clear}
use Rattle.scm_moves.specs.Stale.{LawOfStale, is_stale}
use Rattle.scm_moves.proofs.Stale.{not_off, stale, step_off, tells_off}
use Rattle.scm_moves.proofs.Whole.{Whole}

-- a report of a current process is taken or refused
report_heard : (g : Flat) (row : Service) (report : Status) → (finished g (report_told (Some row) report)).answer ≡ answer.Stale → ⊥
report_heard g row report told =
    elim (takes row.status report) as (λ b. (finished g (report_answer (cond b (Ok report) (Err 13)))).answer ≡ answer.Stale → ⊥)
    [ true ↦ λ h. cc | false ↦ λ h. cc ] told

of_report : (g : Flat) (report : Status) (found : Option Service) → ((finished g (report_told found report)).answer ≡ answer.Stale) ↔
    (is_none found ≡ true)
of_report g report None = (λ told. refl, λ none. refl)
of_report g report (Some row) = (λ told. absurd (report_heard g row report told), λ none. absurd cc)

of_end : (g : Flat) (process : ℕ) (rows : List Service) → ((finished g (end_told (currents process rows))).answer ≡ answer.Stale) ↔
    (not (list_any (is_by process) rows) ≡ true)
of_end g process [] = (λ told. refl, λ none. refl)
of_end g process (row ∷ rows) =
    elim (is_by process row) as (λ b. ((finished g (end_told (cond b (row ∷ currents process rows) (currents process rows)))).answer ≡
    answer.Stale) ↔ (not (b || list_any (is_by process) rows) ≡ true)) [
      | true ↦ (λ told. absurd cc, λ none. absurd cc)
      | false ↦ of_end g process rows
    ]

told_stale : (l : Limits) (f : Flat) (moment : ℕ) (step : Step) → ((step_of l f moment step).answer ≡ answer.Stale) ↔
    (is_stale f step ≡ true)
told_stale l f moment (Report process service report) = of_report (settled l
    (effect_of l (at_moment f moment (Report process service report))
    (Report process service report)).flat) report (reporting f process service)
told_stale l f moment (Ended process) = of_end (settled l (effect_of l (at_moment f moment (Ended process)) (Ended process)).flat)
    process f.services
told_stale l f moment step = (λ told. absurd (not_off _ (ap tells_off told) (step_off l f moment step refl)), λ is. absurd cc)

pub gives : (l : Limits) → Gives (Whole l) LawOfStale l
gives l f e whole ok =
    let told = told_stale l f e.0 e.1 in
    record { stale = told; services = λ is. stale l f e.0 e.1 (is_valid_clear l f whole.clear) (told.1 is) }
