-- What the move of a journal leaves of it, and of the store that it is moved to.
use Rattle.std.specs.Prelude.{ℕ, ◌≡◌, ◌≢◌, ◌⊎◌, Bool, true, false, List, [], Option, Result, Ok, Err}
use Rattle.outside.specs.Asked.{IsAsked, Paths, with_path}
use Rattle.record_journal.specs.Keepers.{SettledSince}
use Rattle.record_journal.specs.declared.keeper.KeepFault.{KeepFault}
use Rattle.record_journal.specs.declared.keeper.KeepFault.TheVariants as keeps
use Rattle.record_journal.specs.declared.opening.JournalFault.{JournalFault}
use Rattle.journal_store.specs.Compacting.{HasKeepCause}
use Rattle.scm_compacted.specs.Compacted.{HasJournalCause, IfHeld, IsCompactOf, ReadsJournal}
use Rattle.scm_compacted.specs.declared.moving.MoveFault.{MoveFault}
use Rattle.scm_compacted.specs.declared.moving.MoveFault.TheVariants as faults

-- ## Each side's part

-- how the journal was read
abbrev pub journal_part : Result (Unit {0}) MoveFault → Result (Unit {0}) JournalFault
journal_part (Err (faults.Journal fault)) = Err fault
journal_part result = Ok tt

-- how the store's calls ended
abbrev pub store_part : Result (Unit {0}) MoveFault → Result (Unit {0}) KeepFault
store_part (Err (faults.Store fault)) = Err fault
store_part result = Ok tt

-- ## Contents

-- A content that was empty is these bytes; one that wasn't stays, and so does each after a fault. If the store failed, the bytes may stand
-- there.
abbrev pub Fills : List ℕ → (old now : List ℕ) → Result Bool KeepFault → Type 0
Fills bytes old now (Ok true) = (old ≡ []) × (now ≡ bytes)
Fills bytes old now (Ok false) = (old ≢ []) × (now ≡ old)
Fills bytes old now (Err keeps.Failed) = (now ≡ old) ⊎ ((old ≡ []) × (now ≡ bytes))
Fills bytes old now (Err keeps.OutOfMemory) = now ≡ old

abbrev pub HasFilled : List ℕ → (old now : Option (List ℕ)) → Result Bool KeepFault → Type 0
HasFilled bytes old now result = IfHeld (λ (stood stands : List ℕ). Fills bytes stood stands result) old now

-- The same of the store that a journal is moved to, where the bytes are the compact text of the journal. If the journal isn't read, the
-- content stays.
abbrev pub MovesInto : (journal : Option (List ℕ)) → (old now : List ℕ) → Result (Unit {0}) MoveFault → Type 0
MovesInto journal old now (Ok done) = (old ≡ []) × IsCompactOf journal now
MovesInto journal old now (Err faults.NotEmpty) = (old ≢ []) × (now ≡ old)
MovesInto journal old now (Err (faults.Store keeps.Failed)) = (now ≡ old) ⊎ ((old ≡ []) × IsCompactOf journal now)
MovesInto journal old now (Err fault) = now ≡ old

abbrev pub HasMovedInto : (journal old now : Option (List ℕ)) → Result (Unit {0}) MoveFault → Type 0
HasMovedInto journal old now result = IfHeld (λ (stood stands : List ℕ). MovesInto journal stood stands result) old now

-- the journal is read, and its replay stays as before
abbrev pub HasMovedFrom : (old now : Option (List ℕ)) → Result (Unit {0}) MoveFault → Type 0
HasMovedFrom old now result = IfHeld (λ (stood stands : List ℕ). ReadsJournal stood stands (journal_part result)) old now

-- ## The store

-- the store is asked only after the journal was read
abbrev pub IsAskedLast : {Q : Type 0} → (old new : Q) → Result (Unit {0}) MoveFault → Type 0
IsAskedLast old new (Err (faults.Journal fault)) = new ≡ old
IsAskedLast old new result = Unit {0}

-- the path was asked for, unless the store failed, perhaps at that
abbrev pub AsksStore : {T : Type 0} → Option (List ℕ) → Paths → Paths → Result T KeepFault → Type 0
AsksStore path old new (Err keeps.Failed) = IsAsked path old new
AsksStore path old new result = new ≡ with_path old path

-- the same at the end of a move; if the journal isn't read nothing was asked for
abbrev pub AsksLast : Option (List ℕ) → Paths → Paths → Result (Unit {0}) MoveFault → Type 0
AsksLast path old new (Err (faults.Journal fault)) = new ≡ old
AsksLast path old new (Err (faults.Store keeps.Failed)) = IsAsked path old new
AsksLast path old new result = new ≡ with_path old path

-- once it is filled or not empty, a crash leaves what it holds, and nothing else; after a fault it does so too, unless the store failed
abbrev pub FillsOnly : (before now : ℕ) → Result Bool KeepFault → (only settled : Type 0) → Type 0
FillsOnly before now (Ok true) only settled = only
FillsOnly before now (Ok false) only settled = settled
FillsOnly before now (Err fault) only settled = SettledSince before now settled

-- the same at the end of a move; if the journal isn't read the store is as it was
abbrev pub MovesOnly : (before now : ℕ) → Result (Unit {0}) MoveFault → (only settled : Type 0) → Type 0
MovesOnly before now (Ok done) only settled = only
MovesOnly before now (Err (faults.Journal fault)) only settled = Unit {0}
MovesOnly before now (Err fault) only settled = SettledSince before now settled
