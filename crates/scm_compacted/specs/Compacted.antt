-- A journal, and the compact text of its replay.
use Rattle.std.specs.Prelude.{ℕ, ◌≡◌, ◌≤◌, ◌⊎◌, List, Option, None, Some, Result, Ok, Err, IfSome, IsErrOf, OnOk}
use Rattle.outside.specs.Causes.{Rose}
use Rattle.record_journal.specs.Entries.{read_journal}
use Rattle.record_journal.specs.Keepers.{SettledSince}
use Rattle.record_journal.specs.declared.opening.JournalFault.{JournalFault}
use Rattle.record_journal.specs.declared.opening.JournalFault.TheVariants as faults
use Rattle.record_journal.specs.declared.replaying.Replay.{Replay}
use Rattle.journal_compact.specs.Compact.{compact_replay, compact_text}

-- what holds of a content before and now, if it is known
abbrev pub IfHeld : (List ℕ → List ℕ → Type 0) → (old now : Option (List ℕ)) → Type 0
IfHeld P None now = Unit {0}
IfHeld P (Some old) None = ⊥
IfHeld P (Some old) (Some now) = P old now

-- ## The journal that is read

-- it isn't damaged
abbrev pub IsSound : List ℕ → Type 0
IsSound bytes = (replay : Replay) × (read_journal bytes ≡ Ok replay)

-- its replay is as before
abbrev pub HasSameReplay : (old now : List ℕ) → Type 0
HasSameReplay old now = read_journal now ≡ read_journal old

-- whether it is damaged, and where; then it stays as it is, and otherwise its replay is as before
abbrev pub ReadsJournal : {T : Type 0} → (old now : List ℕ) → Result T JournalFault → Type 0
ReadsJournal old now (Ok done) = IsSound old × HasSameReplay old now
ReadsJournal old now (Err (faults.Damaged place)) = (read_journal old ≡ Err place) × (now ≡ old)
ReadsJournal old now (Err fault) = HasSameReplay old now

-- the count of faults rose if the keeper failed, and is the same after success
pub record HasJournalCause {T : Type 0} (before now : ℕ) (result : Result T JournalFault) : Type 0 where
  pub grows : before ≤ now
  pub rose : IsErrOf result faults.Failed → Rose before now
  pub kept : OnOk result (now ≡ before)

-- ## Its compact text

-- a text is the compact text of the replay of a journal, if that is known, and its own replay has the same configurations
pub record IsCompactOf (journal : Option (List ℕ)) (bytes : List ℕ) : Type 0 where
  pub replay : Replay
  pub read : IfSome journal (λ stood. read_journal stood ≡ Ok replay)
  pub text : bytes ≡ compact_text replay.configs
  pub again : read_journal bytes ≡ Ok (compact_replay replay.configs)

-- A content is replaced by its compact text. What is damaged stays. After another fault the replay is as before; if the store failed, the
-- compact text may stand there.
abbrev pub Compacts : List ℕ → List ℕ → Result (Unit {0}) JournalFault → Type 0
Compacts old now (Ok done) = IsCompactOf (Some old) now
Compacts old now (Err (faults.Damaged place)) = (read_journal old ≡ Err place) × (now ≡ old)
Compacts old now (Err faults.OutOfMemory) = HasSameReplay old now
Compacts old now (Err faults.Failed) = HasSameReplay old now ⊎ IsCompactOf (Some old) now

abbrev pub HasCompacted : (old now : Option (List ℕ)) → Result (Unit {0}) JournalFault → Type 0
HasCompacted old now result = IfHeld (λ (stood stands : List ℕ). Compacts stood stands result) old now

-- ## Crashes

-- after success a crash leaves what is held, and nothing else; after a fault it does so too, unless the object failed
abbrev pub LeavesOnly : {T E : Type 0} → (before now : ℕ) → Result T E → (only settled : Type 0) → Type 0
LeavesOnly before now (Ok done) only settled = only
LeavesOnly before now (Err fault) only settled = SettledSince before now settled
