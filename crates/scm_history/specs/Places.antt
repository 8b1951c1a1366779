-- Each process keeps its place in the list.
use Rattle.std.specs.Prelude.{ℕ, Bool, ◌≡◌, ◌≤◌, ◌==◌, ◌||◌, ◌++◌, not, false, All, List, filter, map}
use Rattle.scm_model.specs.declared.flat.Flat.{Flat}
use Rattle.scm_model.specs.declared.flat.Process.{Process}
use Rattle.scm_model.specs.declared.steps.Answer.{Answer}
use Rattle.scm_model.specs.declared.steps.Step.{Step}
use Rattle.scm_model.specs.declared.steps.Step.TheVariants.{LaunchFailed, Ended}
use Rattle.scm_model.specs.Entries.{Entry}
use Rattle.scm_rules.specs.Named.{names_process, takes_process}
use Rattle.scm_history.specs.Processes.{apart_from_controls}

-- whether a process leaves with a step: its launch failed, or it ended
abbrev pub takes_away : ℕ → Step → Bool
takes_away number (LaunchFailed process code) = number == process
takes_away number (Ended process) = number == process
takes_away number step = false

-- the numbers of processes, in the order of the list
abbrev pub process_numbers : List Process → List ℕ
process_numbers rows = map (λ (row : Process). row.number) rows

-- those that don't leave with a step
abbrev pub those_that_stay : Step → List Process → List Process
those_that_stay step rows = filter (λ (row : Process). not (takes_away row.number step)) rows

-- those that a step doesn't name, and whose launch it doesn't take, in the state before, apart from their controls
abbrev pub those_not_meant : Flat → Step → List Process → List Process
those_not_meant f step rows =
    map apart_from_controls (filter (λ (row : Process). not (names_process row.number step || takes_process f row.number step)) rows)

-- After a step the list has those that were listed, in their order and without one that leaves, and then those that are new. A process
-- that the step doesn't name, and whose launch it doesn't take, is as it was, apart from its controls.
pub record PlacesStay (before : Flat) (e : Entry) (told : Answer) (after : Flat) : Type 0 where
  pub old : List Process
  pub new : List Process
  pub listed : after.processes ≡ old ++ new
  pub places : process_numbers old ≡ process_numbers (those_that_stay e.1 before.processes)
  pub others : those_not_meant before e.1 old ≡ those_not_meant before e.1 before.processes
  pub given : All (λ (row : Process). before.next.process ≤ row.number) new
