-- What a status says of a compaction and a move.
use Rattle.std.proofs.Common.{ℕ, ◌≡◌, ◌≢◌, inr, Ok, Err, refl, sym, subst}
use Rattle.std.specs.Prelude.{Result}
use Rattle.record_journal.specs.Keepers.{SettledSince, Settles}
use Rattle.record_journal.specs.declared.keeper.KeepFault.TheVariants as keeps
use Rattle.record_journal.specs.declared.opening.JournalFault.{JournalFault}
use Rattle.record_journal.specs.declared.opening.JournalFault.TheVariants as jfaults
use Rattle.scm_compacted.specs.Compacted.{LeavesOnly}
use Rattle.scm_compacted.specs.Moved.{IsAskedLast, MovesOnly, journal_part}
use Rattle.scm_compacted.specs.declared.moving.MoveFault.{MoveFault}
use Rattle.scm_compacted.specs.declared.moving.MoveFault.TheVariants as faults
use Rattle.scmd_top.specs.Opening.{status_of_fault}
use Rattle.scmd_top.specs.Stores.{status_of_compact, status_of_move}

abbrev Compaction : Type 0
Compaction = Result (Unit {0}) JournalFault

abbrev Move : Type 0
Move = Result (Unit {0}) MoveFault

not_done : (fault : JournalFault) → status_of_fault fault ≢ 0
not_done jfaults.Failed = λ e. cc
not_done (jfaults.Damaged place) = λ e. cc
not_done jfaults.OutOfMemory = λ e. cc

-- ## A compaction

pub compact_only : (before now : ℕ) (only settled : Type 0) (how : Compaction) → LeavesOnly before now how only settled
    → status_of_compact how ≡ 0 → only
compact_only before now only settled (Ok done) leaves is = leaves
compact_only before now only settled (Err fault) leaves is = absurd (not_done fault is)

pub compact_settled : (before now : ℕ) (only settled : Type 0) (how : Compaction) → LeavesOnly before now how only settled
    → status_of_compact how ≢ 0 → SettledSince before now settled
compact_settled before now only settled (Ok done) leaves other = absurd (other refl)
compact_settled before now only settled (Err fault) leaves other = leaves

-- ## A move

pub move_only : (before now : ℕ) (only settled : Type 0) (how : Move) → MovesOnly before now how only settled
    → status_of_move how ≡ 0 → only
move_only before now only settled (Ok done) leaves is = leaves
move_only before now only settled (Err (faults.Journal fault)) leaves is = absurd (not_done fault is)
move_only before now only settled (Err (faults.Store keeps.Failed)) leaves is = absurd cc
move_only before now only settled (Err (faults.Store keeps.OutOfMemory)) leaves is = absurd cc
move_only before now only settled (Err faults.NotEmpty) leaves is = absurd cc

pub move_settled : {Q : Type 0} (is_settled : Q → Type 0) (old new : Q) (before now : ℕ) (only : Type 0) (how : Move)
    → MovesOnly before now how only (is_settled new) → IsAskedLast old new how → status_of_move how ≢ 0 → is_settled old
    → SettledSince before now (is_settled new)
move_settled is_settled old new before now only (Ok done) leaves order other was = absurd (other refl)
move_settled is_settled old new before now only (Err (faults.Journal fault)) leaves order other was =
    inr (subst is_settled (sym order) was)
move_settled is_settled old new before now only (Err (faults.Store fault)) leaves order other was = leaves
move_settled is_settled old new before now only (Err faults.NotEmpty) leaves order other was = leaves

pub keeper_settled : (before now : ℕ) (settled : Type 0) (how : Move) → Settles before now (journal_part how) settled
    → SettledSince before now settled
keeper_settled before now settled (Ok done) h = inr h
keeper_settled before now settled (Err (faults.Journal fault)) h = h
keeper_settled before now settled (Err (faults.Store fault)) h = inr h
keeper_settled before now settled (Err faults.NotEmpty) h = inr h
