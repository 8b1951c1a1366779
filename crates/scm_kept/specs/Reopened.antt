-- What is read of a journal after a run that appended its changes.
use Rattle.std.specs.Prelude.{ℕ, ◌≡◌, ◌≤◌, IsTrue, List, ◌++◌, Some, IfSome, length, take}
use Rattle.scm_model.specs.declared.flat.Config.{Config}
use Rattle.scm_model.specs.declared.flat.Flat.{Flat}
use Rattle.scm_model.specs.declared.flat.Limits.{Limits}
use Rattle.scm_model.specs.declared.steps.Step.{Step}
use Rattle.scm_model.specs.Entries.{Entry}
use Rattle.record_journal.specs.Bearing.{IsKept, Stood, and_changes, piece_after}
use Rattle.record_journal.specs.ReadBack.{AreReplayable}
use Rattle.record_journal.specs.Replay.{replayed}
use Rattle.scm_rules.specs.Histories.{state}
use Rattle.scm_rules.specs.Steps.{may}
use Rattle.scm_rules.specs.Verdicts.{change_of}
use Rattle.scm_history.specs.Kept.{kept_changes}
use Rattle.scm_history.specs.Outcomes.{outcomes}
use Rattle.journal_lasting.specs.Lasting.{next_change, stood_after, with_asked}
use Rattle.scm_kept.specs.Read.{IsJournalOf, IsLeftReadable, Stays}
use Rattle.scm_kept.specs.Replayed.{unmarked}

-- the kept changes of a history can be replayed, one after another
abbrev pub KeepsReplayable : Limits → Flat → List Entry → Type 0
KeepsReplayable l f es = AreReplayable (unmarked f.services) (kept_changes l f es)

-- what they come to
abbrev pub kept_configs : Limits → Flat → List Entry → List Config
kept_configs l f es = replayed (unmarked f.services) (kept_changes l f es)

-- appended to these bytes they are read as that
abbrev pub IsReopened : Stood → Limits → Flat → List Entry → Type 0
IsReopened s l f es =
    IfSome (and_changes (Some s) (kept_changes l f es)) (λ now. IsJournalOf now (kept_configs l f es))

-- what stands then is a journal of that, whatever failed
abbrev pub StandsAsKept : Stood → Limits → Flat → List Entry → Type 0
StandsAsKept s l f es = IsJournalOf (stood_after s (outcomes l f es)) (kept_configs l f es)

-- and what is left of it is read as that, or with a change more whose append failed
abbrev pub IsLeftSo : Stood → Limits → Flat → List Entry → List ℕ → Type 0
IsLeftSo s l f es now =
    IsKept (stood_after s (outcomes l f es)) now → IsLeftReadable (stood_after s (outcomes l f es)) (kept_configs l f es) now

-- an entry may come after a history
abbrev pub MayFollow : Limits → Flat → List Entry → Entry → Type 0
MayFollow l f es e = IsTrue (may l (state l f es) e.0 e.1)

-- an append of a step's change after them leaves no damage, where only so many of its bytes were written
abbrev pub IsReopenedCut : Stood → Limits → Flat → List Entry → Step → ℕ → Type 0
IsReopenedCut s l f es step size =
    IfSome (change_of l (state l f es) step)
    (λ change. IfSome (and_changes (Some s) (kept_changes l f es))
    (λ now. Stays now.bytes (kept_configs l f es) change (now.bytes ++ take size (piece_after now change))))

-- what stands when these entries were made, while the append of the next one's change is in progress
abbrev pub stood_amid : Stood → Limits → Flat → List Entry → List Entry → Stood
stood_amid s l f front rest = with_asked (stood_after s (outcomes l f front)) (next_change (outcomes l (state l f front) rest))

-- a content is read as what was kept of a front of a history, of which so many entries at least, or with one change more: one whose append
-- failed since the last that was kept, or that was in progress
pub record OpensToFront (s : Stood) (l : Limits) (f : Flat) (es : List Entry) (least : ℕ) (now : List ℕ) : Type 0 where
  pub front : List Entry
  pub rest : List Entry
  pub is : es ≡ front ++ rest
  pub all : least ≤ length front
  pub left : IsLeftReadable (stood_amid s l f front rest) (kept_configs l f front) now
