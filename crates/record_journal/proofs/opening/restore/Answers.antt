use Rattle.std.proofs.Common.{ℕ, ◌≡◌, ◌≤◌, ◌∙◌, ⊎_elim, inl, inr, false, List, Option, None, Some, Ok, Err, take, length, refl, sym}
use Rattle.std.proofs.Common.{ap, subst, arith, IfSome}
use Rattle.std.specs.Prelude.{IsErrOf, Result}
use Rattle.std.proofs.lemmas.List.{length-take-le}
use Rattle.std.proofs.lemmas.Result.{err_from_is_err_and}
use Rattle.outside.specs.declared.Failed.{Failed}
use Rattle.record_journal.specs.Bearing.{Bears, stood_in}
use Rattle.record_journal.specs.Entries.{read_journal}
use Rattle.record_journal.specs.Keepers.{Cuts, IsUntold}
use Rattle.record_journal.specs.Opening.{LeavesAll, ReadAs, Restores}
use Rattle.record_journal.specs.declared.journal.Journal.{Journal}
use Rattle.record_journal.specs.declared.opening.JournalFault.{JournalFault}
use Rattle.record_journal.specs.declared.opening.JournalFault.TheVariants as faults
use Rattle.record_journal.specs.declared.opening.Restored.{Restored}
use Rattle.record_journal.specs.declared.replaying.Replay.{Replay}
use Rattle.record_journal.proofs.Standing.{bears_all}
use Rattle.record_journal.proofs.Turns.{kept_within}
use Rattle.record_journal.proofs.opening.restore.Goals as goal

abbrev Told : Type 0
Told = Option (List ℕ)

-- the bytes that are held, if they are told
abbrev Held : Told → List ℕ → Type 0
Held told bytes = IfSome told (λ held. bytes ≡ held)

-- what stands at the end of a replay
abbrev ends_at : Replay → Journal
ends_at replay = record { good = replay.kept; dirty = false; form = replay.form }

abbrev restored : Replay → Restored
restored replay = record { journal = ends_at replay; configs = replay.configs }

-- ## What is answered

same_read : (told : Told) (bytes : List ℕ) (result : Result Restored JournalFault) → Held told bytes → Restores bytes result
    → IfSome told (λ held. Restores held result)
same_read None bytes result is reads = tt
same_read (Some held) bytes result is reads = subst (λ (b : List ℕ). Restores b result) is reads

fault_read : (bytes : List ℕ) (fault : JournalFault) → ReadAs (Err fault) (read_journal bytes) → Restores bytes (Err fault)
fault_read bytes (faults.Damaged place) reads = reads
fault_read bytes faults.OutOfMemory reads = tt
fault_read bytes faults.Failed reads = tt

-- a reading has no fault of the keeper
none_failed : (P : Type 0) (fault : JournalFault) (read : Result Replay ℕ) → ReadAs (Err fault) read
    → IsErrOf {T = Restored} (Err fault) faults.Failed → P
none_failed P (faults.Damaged place) read reads is = absurd cc
none_failed P faults.OutOfMemory read reads is = absurd cc
none_failed P faults.Failed read reads is = absurd reads

-- ## What is left

left_alone : (told : Told) (fault : JournalFault) → LeavesAll told told (Err fault)
left_alone None fault = tt
left_alone (Some held) (faults.Damaged place) = refl
left_alone (Some held) faults.OutOfMemory = refl
left_alone (Some held) faults.Failed = inl refl

still_untold : (told : Told) → IsUntold told told
still_untold None = tt
still_untold (Some held) = tt

cut_off : (told now : Told) (replay : Replay) → Cuts {E = Failed} replay.kept told now (Ok tt) → LeavesAll told now (Ok (restored replay))
cut_off None now replay cuts = tt
cut_off (Some held) None replay cuts = absurd cuts
cut_off (Some held) (Some now) replay cuts = cuts

cut_failed : (told now : Told) (bytes : List ℕ) (replay : Replay) (fault : Failed) → Held told bytes → read_journal bytes ≡ Ok replay
    → Cuts replay.kept told now (Err fault) → LeavesAll told now (Err faults.Failed)
cut_failed None now bytes replay fault is read cuts = tt
cut_failed (Some held) None bytes replay fault is read cuts = absurd cuts
cut_failed (Some held) (Some now) bytes replay fault is read cuts =
    ⊎_elim (λ (same : now ≡ held). inl same)
    (λ (cut : now ≡ take replay.kept held). inr (replay, subst (λ (b : List ℕ). read_journal b ≡ Ok replay) is read, cut)) cuts

-- all that is held then is kept
all_kept : (told now : Told) (bytes : List ℕ) (replay : Replay) → Held told bytes → read_journal bytes ≡ Ok replay
    → Cuts {E = Failed} replay.kept told now (Ok tt) → IsUntold told now → IfSome now (λ all. replay.kept ≡ length all)
all_kept None None bytes replay is read cuts untold = tt
all_kept None (Some now) bytes replay is read cuts untold = absurd untold
all_kept (Some held) None bytes replay is read cuts untold = absurd cuts
all_kept (Some held) (Some now) bytes replay is read cuts untold =
    let within : replay.kept ≤ length bytes = kept_within bytes replay read in
    let long : length bytes ≡ length held = ap length is in
    sym (ap length cuts ∙ length-take-le replay.kept held (omega (arith, within, long)))

borne : (told now : Told) (bytes : List ℕ) (replay : Replay) → Held told bytes → read_journal bytes ≡ Ok replay
    → Cuts {E = Failed} replay.kept told now (Ok tt) → IsUntold told now → Bears (stood_in replay.form now) (ends_at replay) now
borne told now bytes replay is read cuts untold =
    bears_all now replay.kept replay.form (all_kept told now bytes replay is read cuts untold)

-- ## Where the bytes aren't read

pub returns-in_err-configs-clause-answer : goal.returns-in_err-configs-clause-answer
returns-in_err-configs-clause-answer g c =
    let p = err_from_is_err_and c.from_residual.result c.from_residual.ensures.1 in
    let reads = subst (λ (fault : JournalFault). ReadAs (Err fault) (read_journal c.args.bytes.now)) (sym p.2)
    c.in_err-configs.ensures.reads in
    rw p.1
    (same_read (g.K.Keeper.held c.args.keeper.now) c.args.bytes.now (Err p.0) c.requires.held (fault_read c.args.bytes.now p.0 reads))

pub returns-in_err-configs-clause-leaves : goal.returns-in_err-configs-clause-leaves
returns-in_err-configs-clause-leaves g c =
    let p = err_from_is_err_and c.from_residual.result c.from_residual.ensures.1 in
    rw p.1 (left_alone (g.K.Keeper.held c.args.keeper.now) p.0)

pub returns-in_err-configs-clause-untold : goal.returns-in_err-configs-clause-untold
returns-in_err-configs-clause-untold g c = still_untold (g.K.Keeper.held c.args.keeper.now)

pub returns-in_err-configs-clause-cause : goal.returns-in_err-configs-clause-cause
returns-in_err-configs-clause-cause g c =
    let p = err_from_is_err_and c.from_residual.result c.from_residual.ensures.1 in
    let reads = subst (λ (fault : JournalFault). ReadAs (Err fault) (read_journal c.args.bytes.now)) (sym p.2)
    c.in_err-configs.ensures.reads in
    rw p.1 (none_failed _ p.0 (read_journal c.args.bytes.now) reads)

-- ## Where what stands after them is cut

pub returns-in-Ok-clause-answer : goal.returns-in-Ok-clause-answer
returns-in-Ok-clause-answer g c =
    same_read (g.K.Keeper.held c.args.keeper.now) c.args.bytes.now (Ok (restored c.in_ok-configs.field-0)) c.requires.held
    c.in_ok-configs.ensures.reads

pub returns-in-Ok-clause-leaves : goal.returns-in-Ok-clause-leaves
returns-in-Ok-clause-leaves g c =
    cut_off (g.K.Keeper.held c.args.keeper.now) (g.K.Keeper.held c.cut_behind.new.keeper) c.in_ok-configs.field-0 c.in-Ok.ensures.bytes

pub returns-in-Ok-clause-bears : goal.returns-in-Ok-clause-bears
returns-in-Ok-clause-bears g c =
    borne (g.K.Keeper.held c.args.keeper.now) (g.K.Keeper.held c.cut_behind.new.keeper) c.args.bytes.now c.in_ok-configs.field-0
    c.requires.held c.in_ok-configs.ensures.reads c.in-Ok.ensures.bytes c.cut_behind.ensures.untold

pub returns-in-Err-clause-leaves : goal.returns-in-Err-clause-leaves
returns-in-Err-clause-leaves g c =
    cut_failed (g.K.Keeper.held c.args.keeper.now) (g.K.Keeper.held c.cut_behind.new.keeper) c.args.bytes.now c.in_ok-configs.field-0 _
    c.requires.held c.in_ok-configs.ensures.reads c.in-Err.ensures.bytes
