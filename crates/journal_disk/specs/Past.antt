-- The calls that a disk in memory has taken, and what follows from them: what a read gives, and what a crash may leave.
use Rattle.std.specs.Prelude.{ℕ, ◌≡◌, ◌⊎◌, ◌≤◌, Bool, true, false, List, [], ◌∷◌, length, take, Some}
use Rattle.std.proofs.Common.{inl, inr, refl, arith}
use Rattle.journal_disk.specs.Files.{Files, TornFile, no_files, written}
use Rattle.journal_disk.specs.Images.{DiskState, IsDisk}
use Rattle.journal_disk.specs.declared.calls.DiskFate.{DiskFate}
use Rattle.journal_disk.specs.declared.calls.DiskFate.TheVariants.{Succeeds, Fails}

-- a call that was taken, with what became of it
pub data Call : Type 0 where
  Opened : (has_path : Bool) (fate : DiskFate) → Call
  Sized : (file : ℕ) (fate : DiskFate) → Call
  Read : (file place size : ℕ) (fate : DiskFate) → Call
  Wrote : (file place : ℕ) (bytes : List ℕ) (fate : DiskFate) → Call
  Synced : (fate : DiskFate) → Call

-- the bytes of a write that reach the file
abbrev pub reached : DiskFate → List ℕ → List ℕ
reached Succeeds bytes = bytes
reached (Fails done) bytes = take done bytes

-- what a read gives after a call
abbrev pub now_after : Call → Files → Files
now_after (Wrote n at bytes fate) now = written n at (reached fate bytes) now
now_after (Opened false Succeeds) now = no_files
now_after call now = now

-- what a read gives after some calls, the newest first
abbrev pub now_of : Files → List Call → Files
now_of first [] = first
now_of first (call ∷ past) = now_after call (now_of first past)

-- What a crash may leave after a call: of a write any bytes in its range, and in any case what a read gives.
abbrev pub left_after : Call → Files → (Files → Type 0) → Files → Type 0
left_after (Wrote n at bytes fate) now left c =
    (c ≡ written n at (reached fate bytes) now) ⊎ ((d : Files) × left d × TornFile n at (length bytes) d c)
left_after (Synced Succeeds) now left c = c ≡ now
left_after (Opened false Succeeds) now left c = c ≡ no_files
left_after call now left c = left c

abbrev pub remains : Files → List Call → Files → Type 0
remains first [] c = c ≡ first
remains first (call ∷ past) c = left_after call (now_of first past) (remains first past) c

-- What a crash might have left when there were so many calls or more.
abbrev pub left_since : Files → List Call → ℕ → Files → Type 0
left_since first [] t c = (t ≤ 0) × (c ≡ first)
left_since first (call ∷ past) t c = ((t ≤ length (call ∷ past)) × remains first (call ∷ past) c) ⊎ left_since first past t c

abbrev pub disk_state : Files → List Call → DiskState
disk_state first past = record {
  seen = Some (now_of first past);
  leaves = remains first past;
  moment = length past;
  left_since = left_since first past;
}

-- ## It is a disk

pub now_left : (first : Files) (past : List Call) → remains first past (now_of first past)
now_left first [] = refl
now_left first (Wrote n at bytes fate ∷ past) = inl refl
now_left first (Synced Succeeds ∷ past) = refl
now_left first (Synced (Fails done) ∷ past) = now_left first past
now_left first (Opened false Succeeds ∷ past) = refl
now_left first (Opened false (Fails done) ∷ past) = now_left first past
now_left first (Opened true fate ∷ past) = now_left first past
now_left first (Sized n fate ∷ past) = now_left first past
now_left first (Read n at size fate ∷ past) = now_left first past

not_later : (first : Files) (past : List Call) (t : ℕ) (c : Files) → left_since first past t c → t ≤ length past
not_later first [] t c h = h.0
not_later first (call ∷ past) t c (inl h) = h.0
not_later first (call ∷ past) t c (inr h) = let le = not_later first past t c h in omega arith

counts_now : (first : Files) (past : List Call) (t : ℕ) (c : Files) → t ≤ length past → remains first past c → left_since first past t c
counts_now first [] t c le h = (le, h)
counts_now first (call ∷ past) t c le h = inl (le, h)

only_now : (first : Files) (past : List Call) (c : Files) → left_since first past (length past) c → remains first past c
only_now first [] c h = h.1
only_now first (call ∷ past) c (inl h) = h.1
only_now first (call ∷ past) c (inr h) =
    let le = not_later first past (length (call ∷ past)) c h in
    absurd (omega arith)

pub is_disk : (first : Files) (past : List Call) → IsDisk (disk_state first past)
is_disk first past = record { seen = now_left first past; counts_now = counts_now first past; only_now = only_now first past }
