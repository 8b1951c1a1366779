-- What becomes of a launch that is wanted.
use Rattle.std.specs.Prelude.{ℕ, ◌≡◌, false, List, ◌++◌, map, Option, Result, Ok, Err}
use Rattle.scm_model.specs.declared.flat.Phase.TheVariants as phases
use Rattle.scm_model.specs.declared.steps.Answer.TheVariants as answers
use Rattle.scm_model.specs.declared.steps.Step.{Step}
use Rattle.scm_model.specs.declared.steps.Step.TheVariants as steps
use Rattle.book_rule.specs.declared.view.Opening.{Opening}
use Rattle.scm_book.specs.Passes.{HoldsProcess, Known, Learnt, Made}
use Rattle.scm_book.specs.Processes.{KeepsAllBut, is_wanted_behind, line_behind}
use Rattle.process_runner.specs.Commands.{command_words, utf8_of}
use Rattle.process_runner.specs.Spawning.{Starts, counted}
use Rattle.process_runner.specs.declared.spawning.SpawnFault.TheVariants as spawn
use Rattle.process_runner.specs.declared.spawning.SpawnFaults.{SpawnFaults}
use Rattle.process_runner.specs.declared.spawning.Spawned.{Spawned}
use Rattle.scm_model.specs.declared.codes.TheConstants.{ERROR_ACCESS_DENIED, ERROR_FILE_NOT_FOUND, ERROR_GEN_FAILURE}
use Rattle.scm_model.specs.declared.codes.TheConstants.{ERROR_NOT_ENOUGH_MEMORY, ERROR_PATH_NOT_FOUND}
use Rattle.child_runner.specs.declared.fault.LaunchFault.{LaunchFault}
use Rattle.child_runner.specs.declared.fault.LaunchFault.TheVariants as faults
use Rattle.child_runner.specs.declared.launching.LaunchEnd.{LaunchEnd}
use Rattle.child_runner.specs.declared.launching.LaunchEnd.TheVariants as ends

-- ## What is started

-- the words of a launch's line: those of its path, followed by those of its start
abbrev pub started_words : List ℕ × List (List ℕ) → List (List ℕ)
started_words line = map utf8_of (command_words line.0) ++ map utf8_of line.1

-- what a spawner tells before and after, and its counts of faults
pub record Spawning : Type 0 where
  pub started : Option (List (List (List ℕ)))
  pub started_now : Option (List (List (List ℕ)))
  pub faults : SpawnFaults
  pub faults_now : SpawnFaults

abbrev pub spawning_of : (started started_now : Option (List (List (List ℕ)))) → (faults faults_now : SpawnFaults) → Spawning
spawning_of started started_now faults faults_now = record {
  started = started;
  started_now = started_now;
  faults = faults;
  faults_now = faults_now;
}

-- nothing was asked of it
pub record IsIdle (s : Spawning) : Type 0 where
  pub started : s.started_now ≡ s.started
  pub faults : s.faults_now ≡ s.faults

-- the outcome of a start of some words: a child that the spawner started from them, or its fault, which is counted once; if out of memory
-- the spawner isn't asked
abbrev pub SpawnComesTo : {C : Type 0} → Spawning → Result C LaunchFault → List (List ℕ) → Type 0
SpawnComesTo {C} s (Ok child) words = Starts {C = C} s.started s.started_now (Ok child) words × (s.faults_now ≡ s.faults)
SpawnComesTo {C} s (Err (faults.Spawn fault)) words = Starts {C = C} s.started s.started_now (Err fault) words
    × (s.faults_now ≡ counted fault s.faults)
SpawnComesTo s (Err faults.OutOfMemory) words = IsIdle s

-- ## Why a launch failed

-- the error of the system (MS-ERREF) that is reported to the manager
abbrev pub fault_code : LaunchFault → ℕ
fault_code (faults.Spawn spawn.NotFound) = ERROR_FILE_NOT_FOUND
fault_code (faults.Spawn spawn.NoPath) = ERROR_PATH_NOT_FOUND
fault_code (faults.Spawn spawn.Denied) = ERROR_ACCESS_DENIED
fault_code (faults.Spawn spawn.Other) = ERROR_GEN_FAILURE
fault_code faults.OutOfMemory = ERROR_NOT_ENOUGH_MEMORY

-- ## launch_one

module _ (o : Opening) (tells : ℕ → Type 0) where
  -- The pass took the launch that was wanted first, whose line this is, and then reported its outcome, each at a moment of the clock. These
  -- are the last two of its own entries.
  pub record TakesAndTells (k : Known) (process : ℕ) (line : List ℕ × List (List ℕ)) (became : Step) (k' : Known) : Type 0 where
    pub between : Known
    pub taken_at : ℕ
    pub told_at : ℕ
    pub taken_tells : tells taken_at
    pub told_tells : tells told_at
    pub taken : Made o k taken_at steps.LaunchTaken (answers.Launch process) between
    pub line_is : line ≡ line_behind o taken.before
    pub told : Made o between told_at became answers.Done k'
    pub rest : KeepsAllBut o process between k'

  -- its words were started, and the child's ends are those that the spawner gave, its process being in the pass's hand; or they weren't
  -- started, and the code says why; or nothing is wanted in the state of the pass's new history
  abbrev pub Launches : {L F : Type 0} → (L → ℕ) → (L → F → Type 0) → Known → Spawning → LaunchEnd L F → Known → Type 0
  Launches {L} {F} pid gives k s (ends.Started process link feed) k' =
      (line : List ℕ × List (List ℕ)) × TakesAndTells k process line (steps.Launched process (pid link)) k'
      × HoldsProcess o k' process phases.Launched
      × SpawnComesTo {C = Spawned L F} s (Ok (record { link = link; feed = feed })) (started_words line) × gives link feed
  Launches {L} {F} pid gives k s (ends.Failed process code) k' =
      (line : List ℕ × List (List ℕ)) × TakesAndTells k process line (steps.LaunchFailed process code) k'
      × (fault : LaunchFault) × (code ≡ fault_code fault) × SpawnComesTo {C = Spawned L F} s (Err fault) (started_words line)
  Launches pid gives k s ends.Empty k' = Learnt o k k' × (is_wanted_behind o k'.seen ≡ false) × IsIdle s

-- nothing was wanted
abbrev pub IsEmpty : {L F : Type 0} → LaunchEnd L F → Type 0
IsEmpty ends.Empty = Unit {0}
IsEmpty end = ⊥
