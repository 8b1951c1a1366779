-- What a read of a disk gives, and the images that a crash may leave of it, now and since some moment.
use Rattle.std.specs.Prelude.{ℕ, ◌≡◌, ◌⊎◌, ◌≤◌, Bool, true, false, List, length, take, drop, Option, Some, None, Result, Err, IfSome, OnOk}
use Rattle.journal_disk.specs.Files.{Files, TornFile, file, no_files, written}

pub record DiskState : Type 1 where
  -- what a read gives, if the object tells it
  pub seen : Option Files
  -- what a crash now may leave
  pub leaves : Files → Type 0
  -- a number that doesn't fall
  pub moment : ℕ
  -- what a crash at some moment from that one on might have left
  pub left_since : ℕ → Files → Type 0

-- what a read gives is one of the images; this moment is one of those since an earlier one; and since this moment there is no other
pub record IsDisk (d : DiskState) : Type 0 where
  pub seen : IfSome d.seen d.leaves
  pub counts_now : (t : ℕ) (c : Files) → t ≤ d.moment → d.leaves c → d.left_since t c
  pub only_now : (c : Files) → d.left_since d.moment c → d.leaves c

-- a crash leaves this and nothing else
abbrev pub Only : Files → (Files → Type 0) → Type 0
Only f leaves = (c : Files) → leaves c → c ≡ f

-- a crash leaves what a read gives, if the object tells it
abbrev pub IsSynced : DiskState → Type 0
IsSynced d = IfSome d.seen (λ f. Only f d.leaves)

-- time goes on: since a moment a crash might have left what it might have left before, or what it may leave now
pub record Elapses (old new : DiskState) : Type 0 where
  pub later : old.moment ≤ new.moment
  pub nothing_else : (t : ℕ) (c : Files) → t ≤ old.moment → new.left_since t c → old.left_since t c ⊎ new.leaves c
  pub keeps : (t : ℕ) (c : Files) → t ≤ old.moment → old.left_since t c → new.left_since t c

-- a call that writes nothing
pub record Looks (old new : DiskState) : Type 0 where
  pub time : Elapses old new
  pub seen : new.seen ≡ old.seen
  pub leaves : (c : Files) → new.leaves c → old.leaves c

-- the object tells it now exactly if it told it before
abbrev pub IsToldAlike : Option Files → Option Files → Type 0
IsToldAlike None None = Unit {0}
IsToldAlike None (Some new) = ⊥
IsToldAlike (Some old) None = ⊥
IsToldAlike (Some old) (Some new) = Unit {0}

-- the bytes stand in the file
abbrev pub HasWritten : ℕ → ℕ → List ℕ → Option Files → Option Files → Type 0
HasWritten n at bytes None new = Unit {0}
HasWritten n at bytes (Some old) new = new ≡ Some (written n at bytes old)

-- a call that writes; until a sync a crash may leave any bytes in the range
pub record Writes {E : Type 0} (n at : ℕ) (bytes : List ℕ) (old new : DiskState) (result : Result (Unit {0}) E) : Type 0 where
  pub time : Elapses old new
  pub told : IsToldAlike old.seen new.seen
  pub leaves : (c : Files) → new.leaves c → (d : Files) × old.leaves d × TornFile n at (length bytes) d c
  pub ok : OnOk result (HasWritten n at bytes old.seen new.seen)

-- after a sync a crash leaves what a read gives
pub record Syncs {E : Type 0} (old new : DiskState) (result : Result (Unit {0}) E) : Type 0 where
  pub looks : Looks old new
  pub ok : OnOk result (IsSynced new)

-- so many bytes of a file are in place
abbrev pub HasSize : ℕ → ℕ → Option Files → Type 0
HasSize n size seen = IfSome seen (λ f. size ≡ length (file f n))

-- these bytes stand in a file
abbrev pub ReadsFile : ℕ → ℕ → List ℕ → Option Files → Type 0
ReadsFile n at bytes seen = IfSome seen (λ f. bytes ≡ take (length bytes) (drop at (file f n)))

-- the range lies in the file
abbrev pub IsWithin : ℕ → ℕ → Option Files → Type 0
IsWithin n end seen = IfSome seen (λ f. end ≤ length (file f n))

-- Without a path nothing stands, and a crash leaves nothing; else, and at a fault, what stood.
abbrev pub AreFilesEmptied : Option Files → Option Files → Type 0
AreFilesEmptied old (Some new) = new ≡ no_files
AreFilesEmptied old None = old ≡ None

pub record Opens {E : Type 0} (path : Bool) (old new : DiskState) (result : Result (Unit {0}) E) : Type 0 where
  pub time : Elapses old new
  pub told : IsToldAlike old.seen new.seen
  pub leaves : (c : Files) → new.leaves c → old.leaves c ⊎ ((path ≡ false) × (c ≡ no_files))
  pub same : (path ≡ true) ⊎ (d : E) × (result ≡ Err d) → new.seen ≡ old.seen
  pub emptied : path ≡ false → OnOk result (AreFilesEmptied old.seen new.seen)
  pub nothing_left : path ≡ false → OnOk result (Only no_files new.leaves)

-- a disk that tells nothing, and of which nothing is claimed
abbrev pub nothing_told : DiskState
nothing_told = record { seen = None; leaves = λ c. ⊥; moment = 0; left_since = λ t c. ⊥ }

pub nothing_is_disk : IsDisk nothing_told
nothing_is_disk = record { seen = tt; counts_now = λ t c le h. h; only_now = λ c h. h }
