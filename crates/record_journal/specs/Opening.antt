-- What the opening of a journal answers and leaves.
use Rattle.std.specs.Prelude.{ℕ, ◌≡◌, ◌≤◌, ◌⊎◌, Bool, true, false, List, [], take, Option, None, Some, Result, Ok, Err}
use Rattle.std.specs.Io.KnownBytes.{Keeps}
use Rattle.outside.specs.Asked.{IsAsked, Paths, with_path}
use Rattle.scm_model.specs.declared.flat.Config.{Config}
use Rattle.scm_model.specs.declared.flat.Limits.{Limits}
use Rattle.scm_rules.specs.Opening.{CanOpen}
use Rattle.record_journal.specs.Entries.{read_journal}
use Rattle.record_journal.specs.Keepers.{IsEmptied}
use Rattle.record_journal.specs.declared.opening.JournalFault.{JournalFault}
use Rattle.record_journal.specs.declared.opening.JournalFault.TheVariants as faults
use Rattle.record_journal.specs.declared.opening.Restored.{Restored}
use Rattle.record_journal.specs.declared.replaying.Replay.{Replay}

-- configurations that a manager for 1,024 services or more can begin with
pub record CanBegin (configs : List Config) : Type 0 where
  pub under : (l : Limits) → 1024 ≤ l.services → CanOpen l configs

-- what stands under a path; without one nothing stands
abbrev pub content_under : Bool → Option (List ℕ) → Option (List ℕ)
content_under true told = told
content_under false None = None
content_under false (Some bytes) = Some []

-- ## Reading

-- what is read of some bytes, unless memory ran out
abbrev pub ReadAs : Result Replay JournalFault → Result Replay ℕ → Type 0
ReadAs (Ok replay) read = read ≡ Ok replay
ReadAs (Err (faults.Damaged place)) read = read ≡ Err place
ReadAs (Err faults.OutOfMemory) read = Unit {0}
ReadAs (Err faults.Failed) read = ⊥

-- ## Opening

-- the replay of the bytes, whose journal ends after what is kept of them, in its form; or the place
-- of their first damage
abbrev pub Restores : List ℕ → Result Restored JournalFault → Type 0
Restores bytes (Ok opened) =
    read_journal bytes
    ≡ Ok (record {
      configs = opened.configs;
      kept = opened.journal.good;
      form = opened.journal.form;
    })
Restores bytes (Err (faults.Damaged place)) = read_journal bytes ≡ Err place
Restores bytes (Err faults.OutOfMemory) = Unit {0}
Restores bytes (Err faults.Failed) = Unit {0}

-- an unfinished last entry is cut; what is damaged or not read is left as it stood. A fault may
-- come before or after the cut
abbrev pub LeavesBytes : List ℕ → List ℕ → Result Restored JournalFault → Type 0
LeavesBytes bytes now (Ok opened) = now ≡ take opened.journal.good bytes
LeavesBytes bytes now (Err (faults.Damaged place)) = now ≡ bytes
LeavesBytes bytes now (Err faults.OutOfMemory) = now ≡ bytes
LeavesBytes bytes now (Err faults.Failed) =
    (now ≡ bytes) ⊎ ((replay : Replay) × (read_journal bytes ≡ Ok replay) × (now ≡ take replay.kept bytes))

abbrev pub LeavesAll : Option (List ℕ) → Option (List ℕ) → Result Restored JournalFault → Type 0
LeavesAll None now result = Unit {0}
LeavesAll (Some bytes) None result = ⊥
LeavesAll (Some bytes) (Some now) result = LeavesBytes bytes now result

-- the same of what stands under a path; without one nothing stands, or a fault leaves all
abbrev pub LeavesAt : Bool → Option (List ℕ) → Option (List ℕ) → Result Restored JournalFault → Type 0
LeavesAt true old now result = LeavesAll old now result
LeavesAt false old now (Ok opened) = IsEmptied old now
LeavesAt false old now (Err fault) = Keeps old now ⊎ IsEmptied old now

-- a crash leaves what stood, or what is kept of it
abbrev pub IsOpened : List ℕ → List ℕ → Type 0
IsOpened x y = (y ≡ x) ⊎ ((replay : Replay) × (read_journal x ≡ Ok replay) × (y ≡ take replay.kept x))

-- the path was asked for, unless the keeper failed, perhaps at that
abbrev pub AsksAt : {T : Type 0} → Option (List ℕ) → Paths → Paths → Result T JournalFault → Type 0
AsksAt path old new (Err faults.Failed) = IsAsked path old new
AsksAt path old new result = new ≡ with_path old path
