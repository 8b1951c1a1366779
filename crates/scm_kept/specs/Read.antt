-- What is read of a journal that changes were appended to.
use Rattle.std.specs.Prelude.{ℕ, ◌≡◌, ◌≤◌, ◌⊎◌, true, List, ◌++◌, Some, Ok, IfSome, length, take}
use Rattle.scm_model.specs.declared.flat.Config.{Config}
use Rattle.scm_model.specs.declared.steps.Change.{Change}
use Rattle.record_journal.specs.Bearing.{IsAmong, Stood, and_changes, piece_after, stood}
use Rattle.record_journal.specs.Entries.{can_replay, read_journal}
use Rattle.record_journal.specs.Format.{HasEntry}
use Rattle.record_journal.specs.ReadBack.{AreReplayable}
use Rattle.record_journal.specs.Replay.{after_change, replayed}
use Rattle.record_journal.specs.declared.replaying.Replay.{Replay}

-- the bytes are a journal of these configurations, each of them, and end in their form
abbrev pub IsJournalOf : Stood → List Config → Type 0
IsJournalOf s configs =
    read_journal s.bytes ≡ Ok (record { configs = configs; kept = length s.bytes; form = s.form })

-- what is kept of a journal that is read is a journal of the same configurations
abbrev pub IsReadAgain : List ℕ → Replay → Type 0
IsReadAgain bytes replay =
    read_journal bytes ≡ Ok replay
    → IsJournalOf (stood replay.form (take replay.kept bytes)) replay.configs

-- changes that are appended to a journal and can be replayed are read after what stood
abbrev pub IsReadOn : Stood → List Config → List Change → Type 0
IsReadOn s configs changes =
    IsJournalOf s configs → AreReplayable configs changes
    → IfSome (and_changes (Some s) changes) (λ now. IsJournalOf now (replayed configs changes))

-- all that was kept is kept, and read as it was
pub record Rests (bytes : List ℕ) (configs : List Config) (now : List ℕ) : Type 0 where
  pub replay : Replay
  pub read : read_journal now ≡ Ok replay
  pub kept : length bytes ≤ replay.kept
  pub same : replay.configs ≡ configs

-- all that was kept is kept, and read as it was, or with one change more
pub record Stays (bytes : List ℕ) (configs : List Config) (change : Change) (now : List ℕ) : Type 0 where
  pub replay : Replay
  pub read : read_journal now ≡ Ok replay
  pub kept : length bytes ≤ replay.kept
  pub either : (replay.configs ≡ configs) ⊎ (replay.configs ≡ after_change configs change)

-- so it is with one of the changes whose append failed since the last that was kept
pub record HasOneMore (s : Stood) (configs : List Config) (now : List ℕ) : Type 0 where
  pub change : Change
  pub lost : IsAmong change s.lost
  pub stays : Stays s.bytes configs change now

-- what is left of a journal is read as it was kept, or with one of these changes more
abbrev pub IsLeftReadable : Stood → List Config → List ℕ → Type 0
IsLeftReadable s configs now = Rests s.bytes configs now ⊎ HasOneMore s configs now

-- an append of which only so many bytes were written leaves no damage
abbrev pub IsReadCut : Stood → List Config → Change → ℕ → Type 0
IsReadCut s configs change size =
    IsJournalOf s configs → HasEntry change → can_replay configs change ≡ true
    → Stays s.bytes configs change (s.bytes ++ take size (piece_after s change))
