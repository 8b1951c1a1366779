-- What a run kept is what the next opening reads.
use Rattle.std.proofs.Common.{ℕ, ◌≡◌, Bool, true, false, All, List, [], ◌∷◌, Option, None, Some, take, refl, sym, subst, arith}
use Rattle.std.specs.Prelude.{IfSome}
use Rattle.std.proofs.lemmas.List.Elements.{All-take}
use Rattle.scm_model.specs.declared.flat.Config.{Config}
use Rattle.scm_model.specs.declared.flat.Flat.{Flat}
use Rattle.scm_model.specs.declared.flat.Limits.{Limits}
use Rattle.scm_model.specs.declared.steps.Change.{Change}
use Rattle.scm_model.specs.Entries.{Entry}
use Rattle.scm_trail.specs.Segments.{IsCoded}
use Rattle.record_journal.specs.Bearing.{IsKept, KeptIn, Stands, Stood, and_changes, stood}
use Rattle.record_journal.specs.Crashes.{Crashes}
use Rattle.record_journal.specs.Replay.{replayed}
use Rattle.record_journal.specs.declared.replaying.Replay.{Replay}
use Rattle.journal_lasting.specs.Lasting.{stood_after}
use Rattle.scm_rules.specs.Histories.{Legal}
use Rattle.scm_rules.specs.Opening.{IsOpening}
use Rattle.scm_history.specs.Kept.{kept_changes}
use Rattle.scm_history.specs.Outcomes.{Outcome, outcomes}
use Rattle.scm_kept.specs.Fitting.{AreBytes, IsByte}
use Rattle.scm_kept.specs.Read.{IsJournalOf, IsLeftReadable}
use Rattle.scm_kept.proofs.Coded.{all_fit}
use Rattle.scm_kept.proofs.Left.{left_so}
use Rattle.scm_kept.proofs.Opened.{of_opening}
use Rattle.scm_kept.proofs.ReadOn.{read_again}
use Rattle.scm_kept.proofs.Reopened.{IsMadeOf, reopened}
use Rattle.scm_restored.specs.declared.Opened.{Opened}
use Rattle.scm_runs.proofs.Histories.{legal_made}
use Rattle.scmd_top.specs.Opening.{HasOpened, IsRead, kept_front, program_opening}
use Rattle.scmd_top.specs.Pipe.{IsOpenedAgain, IsReadAs, KeepsJournal, kept_behind}
use Rattle.scmd_top.specs.Sides.{Side}
use Rattle.scmd_top.specs.Statuses.{program_limits}

pub no_more : (changes : List Change) → and_changes None changes ≡ None
no_more [] = refl
no_more (change ∷ changes) = no_more changes

-- what is kept of some bytes
abbrev kept_stood : Replay → List ℕ → Stood
kept_stood replay bytes = stood replay.form (take replay.kept bytes)

-- what is kept of what stood is a journal of what it was read as
still_read : (path : Bool) (bytes : List ℕ) (replay : Replay) → IsRead path (Some bytes) replay
    → IsJournalOf (kept_stood replay bytes) replay.configs
still_read true bytes replay read = read_again bytes replay read
still_read false bytes replay read = subst (λ (r : Replay). IsJournalOf (kept_stood r bytes) r.configs) (sym read) refl

left_in : (s : Stood) (configs : List Config) (told : Option (List ℕ)) → ((x : List ℕ) → IsKept s x → IsLeftReadable s configs x)
    → KeptIn (Some s) told → IfSome told (IsLeftReadable s configs)
left_in s configs None reads kept = tt
left_in s configs (Some now) reads kept = reads now kept

-- after a legal history whose entries have codes
module _ (groups : List (List ℕ)) (replay : Replay) (moment : ℕ) (history : List Entry) (now : Crashes)
    (begins : IsOpening program_limits (program_opening groups replay.configs moment))
    (legal : Legal program_limits (program_opening groups replay.configs moment) history) (coded : All IsCoded history) where
  abbrev first : Flat
  first = program_opening groups replay.configs moment

  abbrev changes : List Change
  changes = kept_changes program_limits first history

  abbrev outs : List Outcome
  outs = outcomes program_limits first history

  made_of : (path : Bool) (bytes : List ℕ) → IsRead path (Some bytes) replay → AreBytes bytes → IsMadeOf (kept_stood replay bytes) first
  made_of path bytes read are = record {
    bytes = All-take IsByte replay.kept bytes are;
    read = subst (IsJournalOf (kept_stood replay bytes)) (sym (of_opening program_limits groups replay.configs moment))
        (still_read path bytes replay read);
  }

  reads_on : (path : Bool) (told : Option (List ℕ)) → IsRead path told replay → IfSome told AreBytes
      → IfSome (and_changes (kept_front replay told) changes) (λ s. IsJournalOf s (replayed replay.configs changes))
  reads_on path None read are =
      subst (λ (kept : Option Stood). IfSome kept (λ s. IsJournalOf s (replayed replay.configs changes))) (sym (no_more changes)) tt
  reads_on path (Some bytes) read are =
      subst (λ (configs : List Config). IfSome (and_changes (Some (kept_stood replay bytes)) changes)
      (λ s. IsJournalOf s (replayed configs changes))) (of_opening program_limits groups replay.configs moment)
      (reopened program_limits first history (omega arith) begins (legal_made program_limits first history legal)
      (all_fit history coded) (kept_stood replay bytes) (made_of path bytes read are))

  left_as : (path : Bool) (bytes : List ℕ) → IsRead path (Some bytes) replay → AreBytes bytes → (x : List ℕ)
      → IsKept (stood_after (kept_stood replay bytes) outs) x
      → IsLeftReadable (stood_after (kept_stood replay bytes) outs) (replayed replay.configs changes) x
  left_as path bytes read are x kept =
      subst (λ (configs : List Config). IsLeftReadable (stood_after (kept_stood replay bytes) outs) (replayed configs changes) x)
      (of_opening program_limits groups replay.configs moment)
      (left_so program_limits first history (omega arith) begins (legal_made program_limits first history legal)
      (all_fit history coded) (kept_stood replay bytes) (made_of path bytes read are) refl x kept)

  read_as : (path : Bool) (told told_now : Option (List ℕ)) → IsRead path told replay → IfSome told AreBytes
      → KeptIn (kept_behind replay outs told) told_now → IfSome (kept_front replay told) (λ s. Stands (stood_after s outs) now)
      → IfSome (kept_behind replay outs told) (λ s. IsReadAs (replayed replay.configs changes) s told_now now)
  read_as path None told_now read are kept stands = tt
  read_as path (Some bytes) told_now read are kept stands = record {
    held = left_in (stood_after (kept_stood replay bytes) outs) (replayed replay.configs changes) told_now (left_as path bytes read are)
        kept;
    left = λ x left. left_as path bytes read are x (stands x left);
  }

pub opens_again : (path : Bool) (groups : List (List ℕ)) (keeper : Side) (moment : ℕ) (o : Opened)
    (h : HasOpened path groups keeper moment o) (history : List Entry) (failed : ℕ) (after : Side) (now : Crashes)
    → keeper.told ≡ after.told → Legal program_limits (program_opening groups h.replay.configs moment) history → All IsCoded history
    → KeepsJournal h.replay (outcomes program_limits (program_opening groups h.replay.configs moment) history) failed after now
    → IsOpenedAgain h.replay program_limits (program_opening groups h.replay.configs moment) history after now
opens_again path groups keeper moment o h history failed after now same legal coded keeps = λ are.
    let read : IsRead path after.told h.replay = subst (λ (told : Option (List ℕ)). IsRead path told h.replay) same h.read in
    let begins : IsOpening program_limits (program_opening groups h.replay.configs moment) =
    subst (λ (l : Limits). IsOpening l (program_opening groups h.replay.configs moment)) h.new.limits
    (subst (λ (f : Flat). IsOpening o.manager.limits f) h.new.flat h.begins) in
    record {
      kept = reads_on groups h.replay moment history now begins legal coded path after.told read are;
      read = read_as groups h.replay moment history now begins legal coded path after.told after.told_now read are keeps.kept keeps.stands;
    }
