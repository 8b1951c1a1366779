-- The outcome of each job, and its status.
use Rattle.std.specs.Prelude.{ℕ, ◌≡◌, ◌<◌, ◌^◌, Bool, true, false, ◌⊎◌, List, [], length, Option, IfSome}
use Rattle.outside.specs.Causes.{Rose}
use Rattle.outside.specs.Written.{Begins}
use Rattle.scm_generate.specs.Listed.{generated}
use Rattle.scm_generate.specs.Printed.{Prints, IfMade, IsPrintCaused}
use Rattle.scm_generate.specs.Progress.{CanBeMade}
use Rattle.scm_generate.specs.Summary.{generated_summary}
use Rattle.scm_generate.specs.declared.generated.Generated.{Generated}
use Rattle.scm_generate.specs.declared.generated.Generated.TheVariants as printed
use Rattle.scm_replay.specs.Outcomes.{Standing}
use Rattle.scm_replay.specs.Replay.{TextEnd, AtRest, Unfinished, BadLine, IsOpenText, IsReplayed, replay_told, IsReplayCaused}
use Rattle.scm_replay.specs.declared.replayed.Replayed.{Replayed}
use Rattle.scm_replay.specs.declared.replayed.Replayed.TheVariants as answered
use Rattle.scm_model.specs.declared.flat.Config.{Config}
use Rattle.record_journal.specs.Crashes.{Crashes}
use Rattle.record_journal.specs.declared.replaying.Replay.{Replay as Restoring}
use Rattle.scmd_top.specs.Opening.{FailsToOpen, HasNotOpened, IsCut, IsOpenable, LeavesSettled, program_opening}
use Rattle.scmd_top.specs.declared.words.Job.{Job}
use Rattle.scmd_top.specs.declared.words.Job.TheVariants.{Audit, Pipe, Replay, Generate, Serve}
use Rattle.scmd_top.specs.Auditing.{HasAllAudited, HasAudited}
use Rattle.scmd_top.specs.Pipe.{HasPiped, IsComplete}
use Rattle.scmd_top.specs.Serving.{HasServed, IsServingComplete as IsServed}
use Rattle.scmd_top.specs.Sides.{IsUntouched, LeavesPorts, Ports, Side, Sides}
use Rattle.scmd_top.specs.declared.world.JobWorld.{JobWorld}
use Rattle.scmd_top.specs.Statuses.{IsOrLacks, program_limits}

-- ## Statuses

abbrev pub status_of_replay : Replayed → ℕ
status_of_replay answered.Ended = 0
status_of_replay answered.ReadFault = 1
status_of_replay answered.WriteFault = 2
status_of_replay answered.Truncated = 6
status_of_replay answered.OutOfMemory = 8
status_of_replay answered.BadLine = 11
status_of_replay answered.Worn = 12

abbrev pub status_of_generate : Generated → ℕ
status_of_generate printed.Ended = 0
status_of_generate printed.WriteFault = 2
status_of_generate printed.OutOfMemory = 8

-- ## The outcome of a job

-- where the manager of a replay stands at first, at moment 0: it made no steps
abbrev pub program_start : List Config → Standing
program_start configs = record { flat = program_opening [] configs 0; steps = 0; text = 0 }

-- the input's lines were answered, and the manager stands somewhere after them
pub record LeavesReplayed (configs : List Config) (left left_now held held_now : Option (List ℕ)) (how : Replayed) : Type 0 where
  pub now : Standing
  pub replayed : IsReplayed program_limits (program_start configs) now left left_now held held_now how

-- nothing is asked of the keeper without a path; else it has so many bytes of what stood
abbrev pub IsLeftBy : (path : Bool) → (kept : ℕ) → (keeper : Side) → Type 0
IsLeftBy false kept keeper = IsUntouched keeper
IsLeftBy true kept keeper = IsCut kept keeper.told keeper.told_now × (keeper.faults_now ≡ keeper.faults)

-- over what stood under the path
pub record HasAnswered (path : Bool) (s : Sides) (status : ℕ) : Type 0 where
  pub replay : Restoring
  pub stood : IsOpenable path s.keeper.told replay
  pub how : Replayed
  pub status_is : status ≡ status_of_replay how
  pub replayed : LeavesReplayed replay.configs s.input.told s.input.told_now s.output.told s.output.told_now how
  pub cause : IsReplayCaused how s.input.faults s.input.faults_now s.output.faults s.output.faults_now
  pub keeper : IsLeftBy path replay.kept s.keeper

-- without a path no journal is opened
abbrev pub HasReplayed : (path : Bool) → Sides → (status : ℕ) → Type 0
HasReplayed false s status = HasAnswered false s status
HasReplayed true s status = HasAnswered true s status ⊎ HasNotOpened true s status

-- the summary of the stated list was written, each of whose steps was made where it may be
pub record HasPrinted (services : ℕ) (output : Side) (status : ℕ) : Type 0 where
  pub how : Generated
  pub status_is : status ≡ status_of_generate how
  pub prints : Prints (generated_summary program_limits (program_opening [] [] 0) (generated services)) output.told output.told_now how
  pub can : IfMade how (CanBeMade program_limits (program_opening [] [] 0) (generated services))
  pub cause : IsPrintCaused how output.faults output.faults_now

abbrev pub HasRun : (tells : ℕ → Type 0) → (path : Bool) → (groups : List (List ℕ)) → Job → Sides → (now : Crashes) → Ports
    → (status : ℕ) → Type 0
HasRun tells path groups (Pipe principal) s now p status = HasPiped tells path principal s now status
HasRun tells path groups Replay s now p status = HasReplayed path s status
HasRun tells path groups (Generate services) s now p status =
    HasPrinted services s.output status × IsUntouched s.input × IsUntouched s.keeper
HasRun tells path groups Audit s now p status = HasAudited s status × IsUntouched s.keeper
HasRun tells path groups (Serve admin user export) s now p status =
    HasServed tells path groups export admin user s now p status × IsUntouched s.input

-- no other jobs than a pipe and a server touch the keeper, and a replay over what stands under a path
abbrev pub LeavesKeeper : {K : Type 0} → (path : Bool) → Job → (keeper now : K) → Type 0
LeavesKeeper path (Pipe principal) keeper now = Unit {0}
LeavesKeeper false Replay keeper now = now ≡ keeper
LeavesKeeper true Replay keeper now = Unit {0}
LeavesKeeper path (Generate services) keeper now = now ≡ keeper
LeavesKeeper path Audit keeper now = now ≡ keeper
LeavesKeeper path (Serve admin user export) keeper now = Unit {0}

-- those leave the keeper settled, unless it failed
abbrev pub SettlesKeeper : (path : Bool) → Job → (old : Type 0) → (before now status : ℕ) → (settled : Type 0) → Type 0
SettlesKeeper path (Pipe principal) old before now status settled = LeavesSettled old before now status settled
SettlesKeeper false Replay old before now status settled = Unit {0}
SettlesKeeper true Replay old before now status settled = LeavesSettled old before now status settled
SettlesKeeper path (Generate services) old before now status settled = Unit {0}
SettlesKeeper path Audit old before now status settled = Unit {0}
SettlesKeeper path (Serve admin user export) old before now status settled = LeavesSettled old before now status settled

-- no other job than a server touches the listeners and what starts programs
abbrev pub LeavesOthers : {I O K N P C : Type 0} → Job → (w w' : JobWorld I O K N P C) → Type 0
LeavesOthers (Serve admin user export) w w' = Unit {0}
LeavesOthers job w w' = LeavesPorts w w'

-- ## Completeness

-- the status of lines that end so
abbrev pub status_behind : TextEnd → ℕ
status_behind AtRest = 0
status_behind Unfinished = 6
status_behind BadLine = 11

-- Each end of the lines has its status; where more comes than an input may have and no bad line before that, it is 12.
pub record EndsAsLines (configs : List Config) (bytes : List ℕ) (status : ℕ) : Type 0 where
  pub whole : length bytes < 2 ^ 40 → IsOrLacks (status_behind (replay_told program_limits (program_start configs) bytes).ending) status
  pub worn : (front : List ℕ) → Begins front bytes → length front ≡ 2 ^ 40
      → IsOpenText (replay_told program_limits (program_start configs) front).ending → IsOrLacks 12 status

-- over what stood under the path, unless memory ran out or the journal was not opened
abbrev pub EndsOver : (path : Bool) → (keeper : Side) → List ℕ → (status : ℕ) → Type 0
EndsOver false keeper bytes status = EndsAsLines [] bytes status
EndsOver true keeper bytes status =
    (status ≡ 8) ⊎ FailsToOpen true keeper status ⊎ ((replay : Restoring) × IsOpenable true keeper.told replay
    × EndsAsLines replay.configs bytes status)

-- if the input is known and neither its count nor the output's rose, the status is that of the lines' end
abbrev pub HasAllReplayed : (path : Bool) → Sides → (status : ℕ) → Type 0
HasAllReplayed path s status =
    IfSome s.input.told (λ bytes. (Rose s.input.faults s.input.faults_now → ⊥) → (Rose s.output.faults s.output.faults_now → ⊥)
    → EndsOver path s.keeper bytes status)

-- a summary is written where the sink doesn't fail, unless memory ran out
abbrev pub HasSummedUp : (output : Side) (status : ℕ) → Type 0
HasSummedUp output status = (Rose output.faults output.faults_now → ⊥) → IsOrLacks 0 status

-- nothing else ends a run without faults
abbrev pub HasAllDone : (path : Bool) → Job → Sides → Ports → (status : ℕ) → Type 0
HasAllDone path (Pipe principal) s p status = IsComplete path principal s status
HasAllDone path Replay s p status = HasAllReplayed path s status
HasAllDone path (Generate services) s p status = HasSummedUp s.output status
HasAllDone path Audit s p status = HasAllAudited s status
HasAllDone path (Serve admin user export) s p status = IsServed path s p status
