-- The steps that come to be owed: each will take place without being asked for.
use Rattle.std.specs.Prelude.{ℕ, ◌+◌, length}
use Rattle.scm_model.specs.declared.flat.Flat.{Flat}
use Rattle.scm_model.specs.declared.flat.Phase.{Phase}
use Rattle.scm_model.specs.declared.flat.Phase.TheVariants as phases
use Rattle.scm_model.specs.declared.flat.Process.{Process}
use Rattle.start_plan.specs.Owed.{owed_by_plan, total}

-- of a process that is still to be launched its launch is taken, then it is launched or not, then it ends
abbrev pub owed_in_phase : Phase → ℕ
owed_in_phase phases.Wanted = 3
owed_in_phase phases.Taken = 2
owed_in_phase phases.Launched = 1

abbrev pub owed_by_process : Process → ℕ
owed_by_process process = owed_in_phase process.phase

-- each caller will be gone
abbrev pub owed : Flat → ℕ
owed f = length f.callers + total owed_by_process f.processes + total owed_by_plan f.plans
