-- What a crash leaves on the way of a compaction.
use Rattle.std.proofs.Common.{ℕ, ◌≡◌, ◌⊎◌, ⊎_elim, inl, inr, List, Option, None, Some, Ok, refl, sym, subst}
use Rattle.record_journal.specs.Crashes.{Crashes, Crashing, IsOldOr, Same}
use Rattle.record_journal.specs.Opening.{IsOpened}
use Rattle.record_journal.proofs.Moving.{joined, weaker}
use Rattle.scm_compacted.specs.Compacted.{IsCompactOf}
use Rattle.scm_compacted.proofs.Opened.{Reads, Text, Told}

-- what a crash leaves of a journal that is replaced by its compact text
abbrev pub IsCompacting : Text → Text → Type 0
IsCompacting x y = IsOpened x y ⊎ IsCompactOf (Some x) y

pub only_opened : (held : Told) (a b : Crashes) → Crashing IsOpened held a b → Crashing IsCompacting held a b
only_opened held a b goes x is = weaker (IsOldOr a (IsOpened x)) (IsOldOr a (IsCompacting x)) a b (goes x is)
    (λ y. ⊎_elim inl (λ (opened : IsOpened x y). inr (inl opened)))

same_compact : (held : Told) (x text y : Text) → held ≡ Some x → IsCompactOf held text → y ≡ text → IsCompactOf (Some x) y
same_compact held x text y is compact same =
    subst (λ (t : Told). IsCompactOf t y) is (subst (λ (b : Text). IsCompactOf held b) (sym same) compact)

pub compacting : (held mid : Told) (text : Text) (a b c : Crashes) → IsCompactOf held text → Reads (Ok text) held mid
    → Crashing IsOpened held a b → Crashing (λ x. Same text) mid b c → Crashing IsCompacting held a c
compacting None mid text a b c compact reads first second x is = absurd cc
compacting (Some old) None text a b c compact reads first second x is = absurd reads
compacting (Some old) (Some now) text a b c compact reads first second x is =
    let R : Text → Type 0 = IsOldOr a (IsCompacting x) in
    let opened = only_opened (Some old) a b first x is in
    joined R (IsOldOr b (Same text)) R a b c opened (second now refl) (λ y h. h)
    (λ y. ⊎_elim (opened.now y) (λ (same : y ≡ text). inr (inr (same_compact (Some old) x text y is compact same))))
