-- `compact` and `move`: what is left in the store, and the status.
use Rattle.std.specs.Prelude.{ℕ, ◌≡◌, Result, Ok, Err}
use Rattle.record_journal.specs.declared.keeper.KeepFault.TheVariants as keeps
use Rattle.record_journal.specs.declared.opening.JournalFault.{JournalFault}
use Rattle.journal_store.specs.Compacting.{HasKeepCause}
use Rattle.scm_compacted.specs.Compacted.{HasCompacted, HasJournalCause}
use Rattle.scm_compacted.specs.Moved.{HasMovedFrom, HasMovedInto, journal_part, store_part}
use Rattle.scm_compacted.specs.declared.moving.MoveFault.{MoveFault}
use Rattle.scm_compacted.specs.declared.moving.MoveFault.TheVariants as faults
use Rattle.scmd_top.specs.Opening.{status_of_fault}
use Rattle.scmd_top.specs.Sides.{Side}

-- ## Statuses

abbrev pub status_of_compact : Result (Unit {0}) JournalFault → ℕ
status_of_compact (Ok done) = 0
status_of_compact (Err fault) = status_of_fault fault

abbrev pub status_of_move : Result (Unit {0}) MoveFault → ℕ
status_of_move (Ok done) = 0
status_of_move (Err (faults.Journal fault)) = status_of_fault fault
status_of_move (Err (faults.Store keeps.Failed)) = 3
status_of_move (Err (faults.Store keeps.OutOfMemory)) = 8
status_of_move (Err faults.NotEmpty) = 13

-- ## Contents

-- the store's journal was replaced by its compact text, or not, by the status
pub record HasBeenCompacted (store : Side) (status : ℕ) : Type 0 where
  pub how : Result (Unit {0}) JournalFault
  pub status_is : status ≡ status_of_compact how
  pub compacted : HasCompacted store.told store.told_now how
  pub cause : HasJournalCause store.faults store.faults_now how

-- the keeper's journal was moved to the store, or not, by the status
pub record HasBeenMoved (keeper store : Side) (status : ℕ) : Type 0 where
  pub how : Result (Unit {0}) MoveFault
  pub status_is : status ≡ status_of_move how
  pub journal : HasMovedFrom keeper.told keeper.told_now how
  pub moved : HasMovedInto keeper.told store.told store.told_now how
  pub keeper_cause : HasJournalCause keeper.faults keeper.faults_now (journal_part how)
  pub store_cause : HasKeepCause store.faults store.faults_now (store_part how)
