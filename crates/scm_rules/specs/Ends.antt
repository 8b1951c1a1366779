-- Ends of processes.
use Rattle.std.specs.Prelude.{ℕ, List, [], ◌∷◌}
use Rattle.scm_model.specs.declared.codes.TheConstants.{ERROR_PROCESS_ABORTED}
use Rattle.scm_model.specs.declared.flat.Flat.{Flat}
use Rattle.scm_model.specs.declared.flat.Service.{Service}
use Rattle.scm_model.specs.declared.steps.Answer.{Answer}
use Rattle.scm_model.specs.declared.steps.Answer.TheVariants as answer
use Rattle.scm_model.specs.Outcomes.{StepResult}
use Rattle.scm_rules.specs.Failures.{all_failed}
use Rattle.scm_rules.specs.Launches.{currents, with_fallen, without_process}

-- an end of a process that is no service's current one is stale
abbrev pub end_told : List Service → Answer
end_told [] = answer.Stale
end_told (row ∷ rows) = answer.Done

-- each service falls whose current process this is: it ended without a word (1067), which is a failure of each
abbrev pub with_end : Flat → ℕ → Flat
with_end f process = all_failed (currents process f.services) (with_fallen f process ERROR_PROCESS_ABORTED)

-- the process leaves
abbrev pub process_ended : Flat → ℕ → StepResult
process_ended f process = record { answer = end_told (currents process f.services); flat = without_process (with_end f process) process }
