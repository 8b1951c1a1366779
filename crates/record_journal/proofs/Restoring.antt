-- What the opening of a journal leaves.
use Rattle.std.proofs.Common.{ℕ, zero, suc, ◌≡◌, ◌∙◌, ⊎_elim, inl, inr, Bool, true, false, List, [], Option, None, Some, Ok, Err, take, refl}
use Rattle.std.proofs.Common.{ap, subst}
use Rattle.outside.specs.declared.Failed.{Failed}
use Rattle.std.specs.Prelude.{IfOk, Result}
use Rattle.std.specs.Io.KnownBytes.{Keeps}
use Rattle.record_journal.specs.Bearing.{StandsIn, stood_in}
use Rattle.record_journal.specs.Crashes.{AreCrashes, Crashes, Crashing, Same}
use Rattle.record_journal.specs.Entries.{read_journal}
use Rattle.record_journal.specs.Keepers.{IsEmptied, IsUntold, Opens, Settles, opened_at}
use Rattle.record_journal.specs.Opening.{IsOpened, LeavesAt, LeavesAll, LeavesBytes}
use Rattle.record_journal.specs.declared.opening.JournalFault.{JournalFault}
use Rattle.record_journal.specs.declared.opening.JournalFault.TheVariants as faults
use Rattle.record_journal.specs.declared.opening.Restored.{Restored}
use Rattle.record_journal.specs.declared.replaying.Replay.{Replay}
use Rattle.record_journal.proofs.Moving.{followed}
use Rattle.record_journal.proofs.Standing.{settled_in}

abbrev Told : Type 0
Told = Option (List ℕ)

take_nothing : (n : ℕ) → ◌≡◌ {A = List ℕ} (take n []) []
take_nothing zero = refl
take_nothing (suc n) = refl

-- of nothing, nothing is left
nothing_left : (now : List ℕ) (result : Result Restored JournalFault) → LeavesBytes [] now result → now ≡ []
nothing_left now (Ok opened) leaves = leaves ∙ take_nothing opened.journal.good
nothing_left now (Err (faults.Damaged place)) leaves = leaves
nothing_left now (Err faults.OutOfMemory) leaves = leaves
nothing_left now (Err faults.Failed) leaves = ⊎_elim (λ (same : now ≡ []). same)
    (λ (p : (replay : Replay) × (read_journal [] ≡ Ok replay) × (now ≡ take replay.kept [])). p.2 ∙ take_nothing p.0.kept) leaves

emptied : (old opened now last : Told) (result : Result Restored JournalFault) → IsEmptied old opened → Keeps opened now
    → IsUntold opened now → LeavesAll now last result → IsUntold now last → IsEmptied old last
emptied old None None None result empty keeps untold leaves after = empty
emptied old None None (Some last) result empty keeps untold leaves after = absurd after
emptied old None (Some now) last result empty keeps untold leaves after = absurd untold
emptied old (Some bytes) None last result empty keeps untold leaves after = absurd keeps
emptied old (Some bytes) (Some now) None result empty keeps untold leaves after = absurd leaves
emptied old (Some bytes) (Some now) (Some last) result empty keeps untold leaves after =
    nothing_left last result (subst (λ (b : List ℕ). LeavesBytes b last result) (keeps ∙ empty) leaves)

either_way : (old last : Told) (result : Result Restored JournalFault) → IsEmptied old last → LeavesAt false old last result
either_way old last (Ok opened) empty = empty
either_way old last (Err fault) empty = inr empty

pub leaves_opened : (path : Bool) (old opened now last : Told) (result : Result Restored JournalFault)
    → Opens {E = Failed} path old opened (Ok tt) → Keeps opened now → IsUntold opened now
    → LeavesAll now last result → IsUntold now last → LeavesAt path old last result
leaves_opened true None opened now last result opens keeps untold leaves after = tt
leaves_opened true (Some held) None now last result opens keeps untold leaves after = absurd opens
leaves_opened true (Some held) (Some bytes) None last result opens keeps untold leaves after = absurd keeps
leaves_opened true (Some held) (Some bytes) (Some now) last result opens keeps untold leaves after =
    subst (λ (b : List ℕ). LeavesAll (Some b) last result) (keeps ∙ opens) leaves
leaves_opened false old opened now last result opens keeps untold leaves after =
    either_way old last result (emptied old opened now last result opens keeps untold leaves after)

-- ## What a crash leaves on the way

opened_to : (path : Bool) (old opened : Told) (x : List ℕ) → Opens {E = Failed} path old opened (Ok tt) → old ≡ Some x
    → opened ≡ Some (opened_at path x)
opened_to true None opened x opens is = absurd cc
opened_to true (Some bytes) None x opens is = absurd opens
opened_to true (Some bytes) (Some now) x opens is =
    let same : bytes ≡ x = cc in
    ap (λ (b : List ℕ). Some b) (opens ∙ same)
opened_to false None opened x opens is = absurd cc
opened_to false (Some bytes) None x opens is = absurd cc
opened_to false (Some bytes) (Some now) x opens is = ap (λ (b : List ℕ). Some b) opens

read_same : (opened now : Told) (x : List ℕ) → Keeps opened now → opened ≡ Some x → now ≡ Some x
read_same None now x keeps is = absurd cc
read_same (Some bytes) None x keeps is = absurd keeps
read_same (Some bytes) (Some now) x keeps is =
    let same : bytes ≡ x = cc in
    ap (λ (b : List ℕ). Some b) (keeps ∙ same)

pub opening_leaves : (path : Bool) (old opened now : Told) (a b c d : Crashes) → Opens {E = Failed} path old opened (Ok tt)
    → Keeps opened now → Crashing (λ x. Same (opened_at path x)) old a b → Crashing Same opened b c → Crashing IsOpened now c d
    → Crashing (λ x. IsOpened (opened_at path x)) old a d
opening_leaves path old opened now a b c d opens keeps first second third =
    let P : List ℕ → List ℕ → Type 0 = λ x. Same (opened_at path x) in
    let R : List ℕ → List ℕ → Type 0 = λ x. IsOpened (opened_at path x) in
    let read : Crashing P old a c = followed P Same P (opened_at path) old opened a b c first second
    (λ x is. opened_to path old opened x opens is) (λ x y p. p) (λ x y q. q) in
    followed P IsOpened R (opened_at path) old now a c d read third
    (λ x is. read_same opened now (opened_at path x) keeps (opened_to path old opened x opens is)) (λ x y p. inl p) (λ x y q. q)

-- a crash after it leaves what is held
pub opening_stands : (result : Result Restored JournalFault) (before last : ℕ) (held : Told) (settled : Type 0) (c : Crashes)
    → AreCrashes held c settled → Settles before last result settled
    → IfOk result (λ opened. StandsIn (stood_in opened.journal.form held) c)
opening_stands (Ok opened) before last held settled c law so = settled_in opened.journal.form held settled c law so
opening_stands (Err fault) before last held settled c law so = tt
