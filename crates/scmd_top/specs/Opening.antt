-- The opening of a run: what is made of the journal under its path, and the manager that stands over it.
use Rattle.std.specs.Prelude.{ℕ, ◌≡◌, ◌⊎◌, Bool, true, false, List, [], take, Option, None, Some, option_map, Result, Ok, Err, IfSome}
use Rattle.std.specs.Io.KnownBytes.{Keeps}
use Rattle.outside.specs.Causes.{Rose}
use Rattle.scm_model.specs.declared.flat.Config.{Config}
use Rattle.scm_model.specs.declared.flat.Flat.{Flat}
use Rattle.scm_model.specs.declared.steps.Form.TheVariants.{Second}
use Rattle.scm_core.specs.Managed.{Managed}
use Rattle.scm_rules.specs.Opening.{CanOpen, IsOpening, opening}
use Rattle.record_journal.specs.Bearing.{Bears, Stood, stood_in}
use Rattle.record_journal.specs.Entries.{read_journal}
use Rattle.record_journal.specs.Keepers.{IsEmptied, SettledSince}
use Rattle.record_journal.specs.Opening.{LeavesAll}
use Rattle.record_journal.specs.declared.opening.JournalFault.{JournalFault}
use Rattle.record_journal.specs.declared.opening.JournalFault.TheVariants as faults
use Rattle.record_journal.specs.declared.replaying.Replay.{Replay}
use Rattle.scm_restored.specs.declared.Opened.{Opened}
use Rattle.opening_lines.specs.declared.opening.Opening.{Opening as Beginning}
use Rattle.scmd_top.specs.declared.opening.Begun.{Begun}
use Rattle.scmd_top.specs.Sides.{IsUntouched, Side, Sides}
use Rattle.scmd_top.specs.Statuses.{program_limits}

-- ## What stood

-- What stood under the path amounts to these configurations, and so many of its bytes are kept, which end in this form. Without a path
-- there are none, and a new journal is of form 2.
abbrev pub IsRead : (path : Bool) → (told : Option (List ℕ)) → Replay → Type 0
IsRead false told replay = replay ≡ record { configs = []; kept = 0; form = Second }
IsRead true told replay = IfSome told (λ bytes. read_journal bytes ≡ Ok replay)

-- it amounts to configurations that a manager can begin with
pub record IsOpenable (path : Bool) (told : Option (List ℕ)) (replay : Replay) : Type 0 where
  pub read : IsRead path told replay
  pub can : CanOpen program_limits replay.configs

-- what stood under the path is damaged
abbrev pub IsDamaged : (path : Bool) → (told : Option (List ℕ)) → Type 0
IsDamaged false told = ⊥
IsDamaged true told = IfSome told (λ bytes. (place : ℕ) × (read_journal bytes ≡ Err place))

-- what is kept of what stood, and the form in which it ends, where the keeper told it
abbrev pub kept_front : Replay → Option (List ℕ) → Option Stood
kept_front replay told = stood_in replay.form (option_map (λ (bytes : List ℕ). take replay.kept bytes) told)

-- that is left, and nothing else
abbrev pub IsCut : (kept : ℕ) → (old now : Option (List ℕ)) → Type 0
IsCut kept None now = Unit {0}
IsCut kept (Some bytes) now = now ≡ Some (take kept bytes)

-- without a path nothing is left
abbrev pub IsEmptiedAt : (path : Bool) → (old now : Option (List ℕ)) → Type 0
IsEmptiedAt false old now = IsEmptied old now
IsEmptiedAt true old now = Unit {0}

-- ## An opening

-- the state in which a run's history begins: these services are there, all stopped, those that start by themselves are due, in the order of
-- these groups, and nobody is there
abbrev pub program_opening : (groups : List (List ℕ)) → (configs : List Config) → (moment : ℕ) → Flat
program_opening groups configs moment = opening program_limits groups configs moment

-- it opened at this moment with these groups and configurations under the program's limits, and made no step
pub record IsNew (groups : List (List ℕ)) (configs : List Config) (moment : ℕ) (m : Managed) : Type 0 where
  pub flat : m.flat ≡ program_opening groups configs moment
  pub limits : m.limits ≡ program_limits
  pub steps : m.steps ≡ 0
  pub text : m.text ≡ 0

-- a manager has what stood under the path, of which a copy is returned if any is, and the keeper bears it in the form in which it ends
pub record HasOpened (path : Bool) (groups : List (List ℕ)) (keeper : Side) (moment : ℕ) (o : Opened) : Type 0 where
  pub replay : Replay
  pub read : IsRead path keeper.told replay
  pub new : IsNew groups replay.configs moment o.manager
  pub begins : IsOpening o.manager.limits o.manager.flat
  pub cut : IsCut replay.kept keeper.told keeper.told_now
  pub emptied : IsEmptiedAt path keeper.told keeper.told_now
  pub copied : IfSome o.configs (λ configs. configs ≡ replay.configs)
  pub form : o.journal.form ≡ replay.form
  pub bears : Bears (stood_in o.journal.form keeper.told_now) o.journal keeper.told_now
  pub faults : keeper.faults_now ≡ keeper.faults

-- what stood is left, or what is kept of it
abbrev pub IsJournalLeft : Side → Type 0
IsJournalLeft keeper = LeavesAll keeper.told keeper.told_now (Err faults.Failed)

-- Why there is no manager, and what is left of what stood. What is damaged is never written to. Without a path a keeper that failed holds
-- what it held.
abbrev pub IsUnopened : (path : Bool) → (keeper : Side) → JournalFault → Type 0
IsUnopened false keeper faults.Failed = Keeps keeper.told keeper.told_now × Rose keeper.faults keeper.faults_now
IsUnopened false keeper faults.OutOfMemory = IsEmptied keeper.told keeper.told_now
IsUnopened false keeper (faults.Damaged place) = ⊥
IsUnopened true keeper faults.Failed = IsJournalLeft keeper × Rose keeper.faults keeper.faults_now
IsUnopened true keeper faults.OutOfMemory = IsJournalLeft keeper
IsUnopened true keeper (faults.Damaged place) =
    IfSome keeper.told (λ bytes. read_journal bytes ≡ Err place) × Keeps keeper.told keeper.told_now

abbrev pub OpensJournal : (path : Bool) → (groups : List (List ℕ)) → (keeper : Side) → (moment : ℕ) → Result Opened JournalFault → Type 0
OpensJournal path groups keeper moment (Ok opened) = HasOpened path groups keeper moment opened
OpensJournal path groups keeper moment (Err fault) = IsUnopened path keeper fault

-- ## An opening that is told

-- what a manager begins with, if its configurations are known
abbrev pub beginning_of : (groups : List (List ℕ)) → Option (List Config) → (moment : ℕ) → Option Beginning
beginning_of groups None moment = None
beginning_of groups (Some configs) moment =
    Some (record { limits = program_limits; groups = groups; configs = configs; moment = moment })

-- what a manager begins with, if its history is to be exported
abbrev pub beginning_if : (export : Bool) → (groups : List (List ℕ)) → List Config → (moment : ℕ) → Option Beginning
beginning_if false groups configs moment = None
beginning_if true groups configs moment = beginning_of groups (Some configs) moment

abbrev pub opened_of : Begun → Opened
opened_of b = record { manager = b.manager; journal = b.journal; configs = None }

-- it opened so, and what it begins with is known if its history is to be exported
pub record HasBegun (export path : Bool) (groups : List (List ℕ)) (keeper : Side) (moment : ℕ) (b : Begun) : Type 0 where
  pub opened : HasOpened path groups keeper moment (opened_of b)
  pub known : b.opening ≡ beginning_if export groups opened.replay.configs moment

abbrev pub BeginsAt : (export path : Bool) → (groups : List (List ℕ)) → (keeper : Side) → (moment : ℕ) → Result Begun JournalFault → Type 0
BeginsAt export path groups keeper moment (Ok begun) = HasBegun export path groups keeper moment begun
BeginsAt export path groups keeper moment (Err fault) = IsUnopened path keeper fault

-- ## Crashes

-- The keeper is settled where it was opened, unless it failed. Where memory ran out nothing may have been asked of it: then it is settled
-- if it was.
abbrev pub OpensSettled : {T : Type 0} → (old : Type 0) → (before now : ℕ) → Result T JournalFault → (settled : Type 0) → Type 0
OpensSettled old before now (Ok opened) settled = settled
OpensSettled old before now (Err faults.OutOfMemory) settled = old → SettledSince before now settled
OpensSettled old before now (Err fault) settled = SettledSince before now settled

-- the same at the end of a run that was to open it, by the status
abbrev pub LeavesSettled : (old : Type 0) → (before now status : ℕ) → (settled : Type 0) → Type 0
LeavesSettled old before now status settled = (status ≡ 8 → old) → SettledSince before now settled

-- ## A run without one

abbrev pub status_of_fault : JournalFault → ℕ
status_of_fault faults.Failed = 3
status_of_fault (faults.Damaged place) = 4
status_of_fault faults.OutOfMemory = 8

-- there is no manager: nothing is read or written
pub record HasNotOpened (path : Bool) (s : Sides) (status : ℕ) : Type 0 where
  pub fault : JournalFault
  pub status_is : status ≡ status_of_fault fault
  pub unopened : IsUnopened path s.keeper fault
  pub input : IsUntouched s.input
  pub output : IsUntouched s.output

-- the journal was not opened: the keeper failed, or what stood is damaged
abbrev pub FailsToOpen : (path : Bool) → (keeper : Side) → (status : ℕ) → Type 0
FailsToOpen path keeper status = ((status ≡ 3) × Rose keeper.faults keeper.faults_now) ⊎ ((status ≡ 4) × IsDamaged path keeper.told)
