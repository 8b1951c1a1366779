-- What the opening of a journal leaves of its replay.
use Rattle.std.proofs.Common.{ℕ, ◌≡◌, ◌∙◌, ⊎_elim, inl, inr, List, Option, None, Some, Ok, Err, IfSome, take, length, refl, sym, ap, subst}
use Rattle.std.specs.Prelude.{IfOk, Result}
use Rattle.std.proofs.lemmas.List.{length-take-le}
use Rattle.scm_model.specs.declared.flat.Config.{Config}
use Rattle.outside.specs.declared.Failed.{Failed}
use Rattle.record_journal.specs.Entries.{read_journal}
use Rattle.record_journal.specs.Opening.{CanBegin, LeavesAll, Restores}
use Rattle.record_journal.specs.declared.opening.JournalFault.{JournalFault}
use Rattle.record_journal.specs.declared.opening.JournalFault.TheVariants as faults
use Rattle.record_journal.specs.declared.opening.Restored.{Restored}
use Rattle.record_journal.specs.declared.replaying.Replay.{Replay}
use Rattle.record_journal.proofs.Turns.{kept_within}
use Rattle.scm_kept.proofs.ReadOn.{read_again}
use Rattle.journal_compact.specs.Compact.{HaveEntries, compact_text}
use Rattle.journal_compact.proofs.Readback.{read_compact}
use Rattle.journal_store.specs.Compacting.{Replaces}
use Rattle.scm_compacted.specs.Compacted.{Compacts, HasCompacted, HasSameReplay, IfHeld, IsCompactOf, ReadsJournal}

abbrev pub Told : Type 0
Told = Option (List ℕ)

abbrev pub Text : Type 0
Text = List ℕ

-- how a journal was read of which a text is made
abbrev pub Reads : Result Text JournalFault → (old now : Told) → Type 0
Reads result old now = IfHeld (λ (stood stands : List ℕ). ReadsJournal stood stands result) old now

-- ## Its end is cut

same_replay : (bytes now : List ℕ) (replay : Replay) → read_journal bytes ≡ Ok replay → now ≡ take replay.kept bytes
    → HasSameReplay bytes now
same_replay bytes now replay is cut =
    let long = length-take-le replay.kept bytes (kept_within bytes replay is) in
    ap read_journal cut ∙ read_again bytes replay is
    ∙ ap (λ (n : ℕ). Ok (record { configs = replay.configs; kept = n; form = replay.form })) long
    ∙ sym is

either_same : (bytes now : List ℕ) → LeavesAll (Some bytes) (Some now) (Err faults.Failed) → HasSameReplay bytes now
either_same bytes now (inl same) = ap read_journal same
either_same bytes now (inr cut) = same_replay bytes now cut.0 cut.1 cut.2

abbrev replay_of : Restored → Replay
replay_of opened = record { configs = opened.configs; kept = opened.journal.good; form = opened.journal.form }

-- ## What was read

pub not_opened : (old now : Told) (fault : JournalFault) → IfSome old (λ bytes. Restores bytes (Err fault))
    → LeavesAll old now (Err fault) → Reads (Err fault) old now
not_opened None now fault answer leaves = tt
not_opened (Some bytes) None fault answer leaves = absurd leaves
not_opened (Some bytes) (Some now) (faults.Damaged place) answer leaves = (answer, leaves)
not_opened (Some bytes) (Some now) faults.OutOfMemory answer leaves = ap read_journal leaves
not_opened (Some bytes) (Some now) faults.Failed answer leaves = either_same bytes now leaves

pub opened_well : (old now : Told) (opened : Restored) (text : Text) → IfSome old (λ bytes. Restores bytes (Ok opened))
    → LeavesAll old now (Ok opened) → Reads (Ok text) old now
opened_well None now opened text answer leaves = tt
opened_well (Some bytes) None opened text answer leaves = absurd leaves
opened_well (Some bytes) (Some now) opened text answer leaves =
    ((replay_of opened, answer), same_replay bytes now (replay_of opened) answer leaves)

pub opened_without_memory : (old now : Told) (opened : Restored) → IfSome old (λ bytes. Restores bytes (Ok opened))
    → LeavesAll old now (Ok opened) → Reads (Err faults.OutOfMemory) old now
opened_without_memory None now opened answer leaves = tt
opened_without_memory (Some bytes) None opened answer leaves = absurd leaves
opened_without_memory (Some bytes) (Some now) opened answer leaves = same_replay bytes now (replay_of opened) answer leaves

-- ## Its compact text

pub compact_of : (old : Told) (opened : Restored) (text : List ℕ) → IfSome old (λ bytes. Restores bytes (Ok opened))
    → CanBegin opened.configs → HaveEntries opened.configs → text ≡ compact_text opened.configs → IsCompactOf old text
compact_of old opened text answer begins fits is = record {
  replay = replay_of opened;
  read = answer;
  text = is;
  again = ap read_journal is ∙ read_compact opened.configs fits begins;
}

-- ## It is replaced

pub replaced : (old now last : Told) (text : Text) → IsCompactOf old text
    → Reads (Ok text) old now
    → Replaces {E = Failed} text now last (Ok tt) → HasCompacted old last (Ok tt)
replaced None now last text compact reads done = tt
replaced (Some old) None last text compact reads done = absurd reads
replaced (Some old) (Some now) None text compact reads done = absurd done
replaced (Some old) (Some now) (Some last) text compact reads done = subst (λ (b : Text). IsCompactOf (Some old) b) (sym done) compact

pub not_replaced : (old now last : Told) (text : Text) (fault : Failed) → IsCompactOf old text
    → Reads (Ok text) old now
    → Replaces text now last (Err fault) → HasCompacted old last (Err faults.Failed)
not_replaced None now last text fault compact reads either = tt
not_replaced (Some old) None last text fault compact reads either = absurd reads
not_replaced (Some old) (Some now) None text fault compact reads either = absurd either
not_replaced (Some old) (Some now) (Some last) text fault compact reads (inl same) = inl (ap read_journal same ∙ reads.1)
not_replaced (Some old) (Some now) (Some last) text fault compact reads (inr done) =
    inr (subst (λ (b : Text). IsCompactOf (Some old) b) (sym done) compact)

-- the journal was not read, and so not replaced
pub not_compacted : (old now : Told) (fault : JournalFault) → Reads (Err fault) old now → HasCompacted old now (Err fault)
not_compacted None now fault reads = tt
not_compacted (Some old) None fault reads = absurd reads
not_compacted (Some old) (Some now) (faults.Damaged place) reads = reads
not_compacted (Some old) (Some now) faults.OutOfMemory reads = reads
not_compacted (Some old) (Some now) faults.Failed reads = inl reads
