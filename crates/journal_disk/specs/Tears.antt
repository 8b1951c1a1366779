-- An image that a crash may leave, by a choice of how each open write is torn.
use Rattle.std.specs.Prelude.{ℕ, ◌+◌, ◌-◌, min, nat_lt, false, List, [], ◌∷◌, ◌++◌, length, take, drop, replicate, slice_index_or}
use Rattle.std.specs.Prelude.{if◌then◌else◌}
use Rattle.journal_disk.specs.Files.{Files, file, no_files, written}
use Rattle.journal_disk.specs.Past.{Call, Opened, Wrote, Synced, now_of}
use Rattle.journal_disk.specs.declared.calls.DiskFate.TheVariants.{Succeeds}
use Rattle.journal_disk.specs.declared.images.Tear.{Tear}

-- of a write: its first bytes, then one byte again and again
abbrev pub torn_by : Tear → List ℕ → List ℕ
torn_by tear bytes =
    take (min tear.kept (length bytes)) bytes ++ replicate (min tear.longer (length bytes - min tear.kept (length bytes))) tear.byte

-- a write of which nothing reached the disk
abbrev pub lost : Tear
lost = record { kept = 0; byte = 0; longer = 0 }

-- how many writes are open after a call: no sync was done after them
abbrev pub open_after : Call → ℕ → ℕ
open_after (Wrote n at bytes fate) open_writes = open_writes + 1
open_after (Synced Succeeds) open_writes = 0
open_after (Opened false Succeeds) open_writes = 0
open_after call open_writes = open_writes

abbrev pub open_writes : List Call → ℕ
open_writes [] = 0
open_writes (call ∷ past) = open_after call (open_writes past)

-- A write that begins past the end of the image leaves it as it was.
abbrev pub image_after : Tear → Call → Files → Files → Files
image_after tear (Wrote n at bytes fate) now image =
    if nat_lt (length (file image n)) at then image else written n at (torn_by tear bytes) image
image_after tear (Synced Succeeds) now image = now
image_after tear (Opened false Succeeds) now image = no_files
image_after tear call now image = image

-- after some calls, the newest first; the open writes are torn in their order, and those without a tear are lost
abbrev pub image_of : List Tear → Files → List Call → Files
image_of tears first [] = first
image_of tears first (call ∷ past) =
    image_after (slice_index_or tears (open_writes past) lost) call (now_of first past) (image_of tears first past)

-- what was done when so many calls were done
abbrev pub past_at : ℕ → List Call → List Call
past_at moment past = drop (length past - moment) past
