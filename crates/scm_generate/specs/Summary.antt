-- What a list of steps came to, in four lines.
use Rattle.std.specs.Prelude.{ℕ, ◌+◌, ◌==◌, List, [], ◌∷◌, ◌++◌, length, filter, codes}
use Rattle.scm_model.specs.declared.flat.Flat.{Flat}
use Rattle.scm_model.specs.declared.flat.Limits.{Limits}
use Rattle.scm_model.specs.declared.flat.Service.{Service}
use Rattle.scm_model.specs.declared.steps.Step.{Step}
use Rattle.scm_model.specs.declared.steps.Step.TheVariants.{LaunchTaken}
use Rattle.scm_rules.specs.Runs.{run_state}
use Rattle.scm_model.specs.Entries.{Entry}
use Rattle.scm_summary.specs.Lines.{numbered}
use Rattle.scm_model.specs.declared.codes.TheConstants.{SERVICE_RUNNING}

-- whether a step takes a launch: 1 or 0
abbrev pub launch_in : Step → ℕ
launch_in LaunchTaken = 1
launch_in step = 0

-- how many launches were taken
abbrev pub launches : List Entry → ℕ
launches [] = 0
launches (e ∷ es) = launch_in e.1 + launches es

-- how many services are RUNNING
abbrev pub running : List Service → ℕ
running rows = length (filter (λ (row : Service). row.status.state == SERVICE_RUNNING) rows)

abbrev pub four_lines : (steps services taken running : ℕ) → List ℕ
four_lines steps services taken running =
    numbered (codes "steps ") steps
    ++ (numbered (codes "services ") services
    ++ (numbered (codes "launches ") taken
    ++ numbered (codes "running ") running))

-- of a list that is run from a state on: its length, the services that are there after it, the launches that were taken in it, and
-- the services that are RUNNING after it
abbrev pub generated_summary : Limits → Flat → List Entry → List ℕ
generated_summary l f h = four_lines (length h) (length (run_state l f h).services) (launches h) (running (run_state l f h).services)
