-- Which files a run opens: those that its words name.
use Rattle.std.specs.Prelude.{ℕ, ◌≡◌, ◌≢◌, List, Option, None, Some, Result, Ok, Err}
use Rattle.outside.specs.Asked.{IsAsked, Paths, with_path}
use Rattle.record_journal.specs.declared.opening.JournalFault.{JournalFault}
use Rattle.record_journal.specs.declared.opening.JournalFault.TheVariants as faults
use Rattle.scmd_top.specs.Words.{Compacting, Mode, Moving, OverKeeper, OverStore}
use Rattle.scmd_top.specs.declared.words.Job.{Job}
use Rattle.scmd_top.specs.declared.words.Job.TheVariants.{Pipe, Replay, Serve}

-- an opening asked for this path; where the keeper failed, or memory ran out, it may have
abbrev pub AsksFor : {T : Type 0} → Option (List ℕ) → (old now : Paths) → Result T JournalFault → Type 0
AsksFor path old now (Ok opened) = now ≡ with_path old path
AsksFor path old now (Err (faults.Damaged place)) = now ≡ with_path old path
AsksFor path old now (Err fault) = IsAsked path old now

-- so did a run, by its status
pub record OpensFile (path : Option (List ℕ)) (old now : Paths) (status : ℕ) : Type 0 where
  pub asked : IsAsked path old now
  pub opened : status ≢ 3 → status ≢ 8 → now ≡ with_path old path

-- a pipe and a server open a journal, and so does a replay that is over one
abbrev pub OpensFor : (path : Option (List ℕ)) → Job → (old now : Paths) → (status : ℕ) → Type 0
OpensFor path (Pipe principal) old now status = OpensFile path old now status
OpensFor None Replay old now status = now ≡ old
OpensFor (Some path) Replay old now status = OpensFile (Some path) old now status
OpensFor path (Serve admin user export) old now status = OpensFile path old now status
OpensFor path job old now status = now ≡ old

-- of a move the store is opened once the journal was read, so then with another status than 0 it may not have been
pub record OpensLast (path : Option (List ℕ)) (old now : Paths) (status : ℕ) : Type 0 where
  pub asked : IsAsked path old now
  pub opened : status ≡ 0 → now ≡ with_path old path

-- The keeper opens the file that `--db` names, and the store the one that `--store` names; what a mode doesn't use opens none.
abbrev pub OpensFiles : Mode → (file store : Option (List ℕ)) → (kept kept_now stored stored_now : Paths) → (status : ℕ) → Type 0
OpensFiles (OverKeeper job) file store kept kept_now stored stored_now status =
    OpensFor file job kept kept_now status × (stored_now ≡ stored)
OpensFiles (OverStore job) file store kept kept_now stored stored_now status =
    OpensFor store job stored stored_now status × (kept_now ≡ kept)
OpensFiles Compacting file store kept kept_now stored stored_now status =
    OpensFile store stored stored_now status × (kept_now ≡ kept)
OpensFiles Moving file store kept kept_now stored stored_now status =
    OpensFile file kept kept_now status × OpensLast store stored stored_now status
