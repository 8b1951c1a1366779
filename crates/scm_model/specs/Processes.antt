-- Processes, and the services that live in them.
use Rattle.std.specs.Prelude.{ℕ, Bool, false, true, not, ◌&&◌, ◌==◌, List, Option, None, Some, find, filter, map, option_map}
use Rattle.scm_model.specs.declared.flat.Flat.{Flat}
use Rattle.scm_model.specs.declared.flat.Phase.{Phase}
use Rattle.scm_model.specs.declared.flat.Phase.TheVariants as phases
use Rattle.scm_model.specs.declared.flat.Process.{Process}
use Rattle.scm_model.specs.declared.flat.Service.{Service}

abbrev pub process_of : Flat → ℕ → Option Process
process_of f number = find (λ (row : Process). row.number == number) f.processes

-- the service that a process was launched for
abbrev pub service_of_process : Flat → ℕ → Option ℕ
service_of_process f number = option_map (λ (row : Process). row.service) (process_of f number)

abbrev pub is_running_phase : Phase → Bool
is_running_phase phases.Wanted = false
is_running_phase phases.Taken = false
is_running_phase phases.Launched = true

-- whether a process is listed and was launched
abbrev pub is_launched : Option Process → Bool
is_launched None = false
is_launched (Some row) = is_running_phase row.phase

-- whether other services may live in a process too
abbrev pub is_shared : Option Process → Bool
is_shared None = false
is_shared (Some row) = row.shared

-- whether this is a service's current process; 0 is none
abbrev pub is_by : ℕ → Service → Bool
is_by process row = not (process == 0) && row.process == process

-- the services whose current process it is, in order, and their numbers
abbrev pub currents : ℕ → List Service → List Service
currents process rows = filter (is_by process) rows

abbrev pub currents_in : ℕ → List Service → List ℕ
currents_in process rows = map (λ (row : Service). row.number) (currents process rows)
