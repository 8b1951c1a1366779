-- A disk in memory: its calls as they are kept, and what becomes of those to come.
use Rattle.std.specs.Prelude.{ℕ, ◌≡◌, ◌⊎◌, ◌-◌, Bool, true, false, if◌then◌else◌, List, [], ◌∷◌, length, Option, slice_index_or}
use Rattle.outside.specs.Fates.{later, one_more}
use Rattle.journal_disk.specs.Files.{Files}
use Rattle.journal_disk.specs.Past.{Call, Opened, Sized, Read, Wrote, Synced}
use Rattle.journal_disk.specs.declared.calls.DiskCall.{DiskCall}
use Rattle.journal_disk.specs.declared.calls.DiskCall.TheVariants as asked
use Rattle.journal_disk.specs.declared.calls.DiskFate.{DiskFate}
use Rattle.journal_disk.specs.declared.calls.DiskFate.TheVariants.{Succeeds, Fails}
use Rattle.journal_disk.specs.declared.calls.TakenCall.{TakenCall}

pub record InMemory : Type 0 where
  -- what it held at first
  pub first : Files
  -- the calls that it has taken, the newest first
  pub past : List Call
  -- what becomes of the calls to come, the next one last
  pub fates : List DiskFate
  pub faults : ℕ
  -- the paths at which it was opened, in order
  pub asked : List (Option (List ℕ))

abbrev pub with_fate : DiskCall → DiskFate → Call
with_fate (asked.Open has_path) fate = Opened has_path fate
with_fate (asked.Size file) fate = Sized file fate
with_fate (asked.Read file place size) fate = Read file place size fate
with_fate (asked.Write file place bytes) fate = Wrote file place bytes.items fate
with_fate asked.Sync fate = Synced fate

abbrev pub as_call : TakenCall → Call
as_call taken = with_fate taken.call taken.fate

-- the newest first, before those that are older
abbrev pub past_onto : List Call → List TakenCall → List Call
past_onto past [] = past
past_onto past (taken ∷ calls) = past_onto (as_call taken ∷ past) calls

abbrev pub history : List TakenCall → List Call
history calls = past_onto [] calls

-- what becomes of the next call; it succeeds if nothing is said
abbrev pub next_fate : List DiskFate → DiskFate
next_fate fates = slice_index_or fates (length fates - 1) Succeeds

abbrev pub is_to_fail : DiskFate → Bool
is_to_fail Succeeds = false
is_to_fail (Fails done) = true

-- A call is recorded with its fate, and fails exactly if that says so; or it was out of memory, and fails without a record.
pub record IsTaken (call : DiskFate → Call) (old new : InMemory) (failed : Bool) : Type 0 where
  pub first : new.first ≡ old.first
  pub fates : new.fates ≡ later old.fates
  pub counted : new.faults ≡ (if failed then one_more old.faults else old.faults)
  pub recorded : (new.past ≡ call (next_fate old.fates) ∷ old.past) × (failed ≡ is_to_fail (next_fate old.fates)) ⊎ (new.past ≡ old.past)
      × (failed ≡ true)
