-- Processes: what is launched, and what becomes of it.
use Rattle.std.specs.Prelude.{ℕ, Bool, false, true, not, ◌==◌, List, [], ◌∷◌, Option, None, Some, filter, map, option_and_then}
use Rattle.std.specs.Prelude.{if◌then◌else◌}
use Rattle.scm_model.specs.declared.flat.Flat.{Flat}
use Rattle.scm_model.specs.declared.flat.Phase.{Phase}
use Rattle.scm_model.specs.declared.flat.Phase.TheVariants as phases
use Rattle.scm_model.specs.declared.flat.Process.{Process}
use Rattle.scm_model.specs.declared.flat.Registration.{Registration}
use Rattle.scm_model.specs.declared.flat.Service.{Service}
use Rattle.scm_model.specs.declared.flat.Wanted.{Wanted}
use Rattle.scm_model.specs.declared.steps.Answer.{Answer}
use Rattle.scm_model.specs.declared.steps.Answer.TheVariants as answer
use Rattle.scm_model.specs.Found.{if_found}
use Rattle.scm_model.specs.Notices.{notified_of_move}
use Rattle.scm_model.specs.Outcomes.{StepResult}
pub use Rattle.scm_model.specs.Processes.{currents, currents_in, is_by, is_launched, is_running_phase, process_of, service_of_process}
use Rattle.scm_model.specs.Rows.{service_of}
use Rattle.start_plan.specs.Decided.{aims_among, decided_in}
use Rattle.status_machine.specs.Moves.{take_end}

-- ## Reads

abbrev pub is_taken_phase : Phase → Bool
is_taken_phase phases.Wanted = false
is_taken_phase phases.Taken = true
is_taken_phase phases.Launched = false

abbrev pub is_taken : Option Process → Bool
is_taken None = false
is_taken (Some row) = is_taken_phase row.phase

-- the process that is to be launched first
abbrev pub first_wanted : List Wanted → Option ℕ
first_wanted [] = None
first_wanted (row ∷ rows) = Some row.process

-- ## Changes of processes

abbrev pub taken_if : ℕ → Process → Process
taken_if number row = if row.number == number then record row { phase = phases.Taken } else row

abbrev pub launched_if : ℕ → ℕ → Process → Process
launched_if number pid row = if row.number == number then record row { phase = phases.Launched; pid = pid } else row

-- the launches that are wanted of other processes
abbrev pub wanted_of_others : ℕ → List Wanted → List Wanted
wanted_of_others number rows = filter (λ (row : Wanted). not (row.process == number)) rows

-- the launch of a process is taken: it is no longer wanted
abbrev pub with_taken : Flat → ℕ → Flat
with_taken f number = record f { processes = map (taken_if number) f.processes; wanted = wanted_of_others number f.wanted }

-- a process is launched
abbrev pub with_launched : Flat → ℕ → ℕ → Flat
with_launched f number pid = record f { processes = map (launched_if number pid) f.processes; wanted = wanted_of_others number f.wanted }

abbrev pub without_process : Flat → ℕ → Flat
without_process f number = record f {
  processes = filter (λ (row : Process). not (row.number == number)) f.processes;
  wanted = wanted_of_others number f.wanted;
}

-- ## Falls

-- a service falls: it is STOPPED, with this code, and has no process
abbrev pub fallen : ℕ → Service → Service
fallen code row = record row { status = take_end row.status code; process = 0; asked = false }

-- each service falls whose current process this is
abbrev pub fallen_if : ℕ → ℕ → Service → Service
fallen_if process code row = if is_by process row then fallen code row else row

-- registrations are notified that services fell, one after another
abbrev pub notified_of_falls : ℕ → List Service → List Registration → List Registration
notified_of_falls code [] rows = rows
notified_of_falls code (row ∷ others) rows = notified_of_falls code others (notified_of_move 0 row (fallen code row) rows)

abbrev pub with_fallen : Flat → ℕ → ℕ → Flat
with_fallen f process code = record f {
  services = map (fallen_if process code) f.services;
  registrations = notified_of_falls code (currents process f.services) f.registrations;
}

-- the undecided plans are decided that aim at a service whose current process this is
abbrev pub with_decided_for : Flat → ℕ → ℕ → Flat
with_decided_for f process code = record f { plans = decided_in (aims_among (currents_in process f.services)) code f.plans }

-- ## What is launched

abbrev pub path_in : Option Service → List ℕ
path_in None = []
path_in (Some row) = row.config.path

abbrev pub head_word : List (List ℕ) → List ℕ
head_word [] = []
head_word (word ∷ words) = word

-- the path and the words of a launch: of a service's process its path, of a command's the one word as the path
abbrev pub line_of : Flat → Wanted → List ℕ × List (List ℕ)
line_of f row =
    if row.command then (head_word row.words, [])
    else (path_in (option_and_then (service_of f) (service_of_process f row.process)), row.words)

-- ## Steps

-- the answer when a launch is taken: its process, or Done if none is wanted
abbrev pub launch_told : Option ℕ → Answer
launch_told None = answer.Done
launch_told (Some process) = answer.Launch process

-- takes the launch that is wanted first
abbrev pub launch_taken : Flat → StepResult
launch_taken f = record {
  answer = launch_told (first_wanted f.wanted);
  flat = record f {
    processes = if_found (λ process. map (taken_if process)) (first_wanted f.wanted) f.processes;
    wanted = if_found wanted_of_others (first_wanted f.wanted) f.wanted;
  };
}

-- a process is launched, and the starts of its services succeed
abbrev pub launched : Flat → ℕ → ℕ → Flat
launched f process pid = with_decided_for (with_launched f process pid) process 0

-- a launch failed: the starts of its services fail, the services fall, and the process leaves
abbrev pub launch_failed : Flat → ℕ → ℕ → Flat
launch_failed f process code = without_process (with_fallen (with_decided_for f process code) process code) process
