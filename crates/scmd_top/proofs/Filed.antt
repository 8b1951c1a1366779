-- Which file a run opened.
use Rattle.std.proofs.Common.{ℕ, ◌≡◌, ◌∙◌, inl, inr, refl, List, Option, Result, Ok, Err}
use Rattle.outside.specs.Asked.{Paths, with_path}
use Rattle.record_journal.specs.Opening.{AsksAt}
use Rattle.record_journal.specs.declared.keeper.KeepFault.TheVariants as keeps
use Rattle.record_journal.specs.declared.opening.JournalFault.{JournalFault}
use Rattle.record_journal.specs.declared.opening.JournalFault.TheVariants as faults
use Rattle.scm_compacted.specs.Moved.{AsksLast, journal_part}
use Rattle.scm_compacted.specs.declared.moving.MoveFault.{MoveFault}
use Rattle.scm_compacted.specs.declared.moving.MoveFault.TheVariants as moves
use Rattle.scmd_top.specs.Files.{AsksFor, OpensFile, OpensLast}
use Rattle.scmd_top.specs.Opening.{status_of_fault}
use Rattle.scmd_top.specs.Stores.{status_of_compact, status_of_move}

pub asks_so : {T : Type 0} (path : Option (List ℕ)) (old now : Paths) (result : Result T JournalFault) → AsksAt path old now result
    → AsksFor path old now result
asks_so path old now (Ok opened) is = is
asks_so path old now (Err faults.Failed) is = is
asks_so path old now (Err faults.OutOfMemory) is = inl is
asks_so path old now (Err (faults.Damaged place)) is = is

-- it was opened, and not anew since
pub opens_file : (path : Option (List ℕ)) (old mid now : Paths) (status : ℕ) → mid ≡ with_path old path → now ≡ mid
    → OpensFile path old now status
opens_file path old mid now status is same = record { asked = inl (same ∙ is); opened = λ no_fault memory. same ∙ is }

-- there is no manager
pub opens_none : (T : Type 0) (path : Option (List ℕ)) (old now : Paths) (fault : JournalFault) → AsksFor {T = T} path old now (Err fault)
    → OpensFile path old now (status_of_fault fault)
opens_none T path old now faults.Failed is = record { asked = is; opened = λ no_fault memory. absurd (no_fault refl) }
opens_none T path old now faults.OutOfMemory is = record { asked = is; opened = λ no_fault memory. absurd (memory refl) }
opens_none T path old now (faults.Damaged place) is = record { asked = inl is; opened = λ no_fault memory. is }

pub opens_compact : (path : Option (List ℕ)) (old now : Paths) (how : Result (Unit {0}) JournalFault) → AsksAt path old now how
    → OpensFile path old now (status_of_compact how)
opens_compact path old now (Ok done) is = opens_file path old now now 0 is refl
opens_compact path old now (Err fault) is = opens_none (Unit {0}) path old now fault (asks_so {T = Unit {0}} path old now (Err fault) is)

pub opens_moved : (path : Option (List ℕ)) (old now : Paths) (how : Result (Unit {0}) MoveFault) → AsksAt path old now (journal_part how)
    → OpensFile path old now (status_of_move how)
opens_moved path old now (Ok done) is = opens_file path old now now 0 is refl
opens_moved path old now (Err (moves.Journal fault)) is =
    opens_none (Unit {0}) path old now fault (asks_so {T = Unit {0}} path old now (Err fault) is)
opens_moved path old now (Err (moves.Store keeps.Failed)) is = opens_file path old now now 3 is refl
opens_moved path old now (Err (moves.Store keeps.OutOfMemory)) is = opens_file path old now now 8 is refl
opens_moved path old now (Err moves.NotEmpty) is = opens_file path old now now 13 is refl

pub opens_last : (path : Option (List ℕ)) (old now : Paths) (how : Result (Unit {0}) MoveFault) → AsksLast path old now how
    → OpensLast path old now (status_of_move how)
opens_last path old now (Ok done) is = record { asked = inl is; opened = λ done. is }
opens_last path old now (Err (moves.Journal faults.Failed)) is = record { asked = inr is; opened = λ done. absurd cc }
opens_last path old now (Err (moves.Journal faults.OutOfMemory)) is = record { asked = inr is; opened = λ done. absurd cc }
opens_last path old now (Err (moves.Journal (faults.Damaged place))) is = record { asked = inr is; opened = λ done. absurd cc }
opens_last path old now (Err (moves.Store keeps.Failed)) is = record { asked = is; opened = λ done. absurd cc }
opens_last path old now (Err (moves.Store keeps.OutOfMemory)) is = record { asked = inl is; opened = λ done. absurd cc }
opens_last path old now (Err moves.NotEmpty) is = record { asked = inl is; opened = λ done. absurd cc }
