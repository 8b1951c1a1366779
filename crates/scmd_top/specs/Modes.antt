-- What the program does by its words: a job over the keeper or over the store, a compaction or a move.
use Rattle.std.specs.Prelude.{ℕ, ◌≡◌, ◌≢◌, ◌↔◌, ◌≤◌, Bool, true, List, Option, IfSome, IsNone}
use Rattle.journal_store.specs.Compacting.{IsOnly}
use Rattle.record_journal.specs.Crashes.{Crashes}
use Rattle.record_journal.specs.Keepers.{SettledSince}
use Rattle.scm_book.specs.Ghosts.{Ghosts}
use Rattle.scm_listener.specs.Connections.{PastConnection}
use Rattle.scm_listener.specs.declared.listener.Listening.{Listening}
use Rattle.scmd_top.specs.Files.{OpensFiles}
use Rattle.scmd_top.specs.Groups.{groups_in}
use Rattle.scmd_top.specs.Jobs.{HasAllDone, HasRun, LeavesKeeper, LeavesOthers, SettlesKeeper}
use Rattle.scmd_top.specs.Sides.{Ports, Side, Sides, ports_of, side, sides_of}
use Rattle.scmd_top.specs.Stores.{HasBeenCompacted, HasBeenMoved}
use Rattle.scmd_top.specs.Words.{Compacting, Mode, Moving, OverKeeper, OverStore, listed_groups, mode_of, names_file, path_of}
use Rattle.scmd_top.specs.Words.{store_of}
use Rattle.scmd_top.specs.declared.world.JobWorld.{JobWorld}
use Rattle.scmd_top.specs.declared.world.World.{World}

-- ## The world of a job

-- the journal is kept by the keeper
abbrev pub keeper_world : {I O K Q N P C : Type 0} → World I O K Q N P C → JobWorld I O K N P C
keeper_world w = record {
  input = w.input;
  output = w.output;
  keeper = w.keeper;
  admin = w.admin;
  user = w.user;
  spawner = w.spawner;
  clock = w.clock;
}

-- the journal is kept by the store
abbrev pub store_world : {I O K Q N P C : Type 0} → World I O K Q N P C → JobWorld I O Q N P C
store_world w = record {
  input = w.input;
  output = w.output;
  keeper = w.store;
  admin = w.admin;
  user = w.user;
  spawner = w.spawner;
  clock = w.clock;
}

abbrev pub over_store : Sides → Side → Sides
over_store s store = record s { keeper = store }

-- ## The outcome of a mode

-- what was read, answered, written and kept, and why the run ended
abbrev pub HasRunAs : (tells : ℕ → Type 0) → (path : Bool) → (groups : List (List ℕ)) → Mode → Sides → (now : Crashes)
    → (store : Side) → (store_now : Crashes) → Ports → (status : ℕ) → Type 0
HasRunAs tells path groups (OverKeeper job) s now store store_now p status = HasRun tells path groups job s now p status
HasRunAs tells path groups (OverStore job) s now store store_now p status =
    HasRun tells true groups job (over_store s store) store_now p status
HasRunAs tells path groups Compacting s now store store_now p status = HasBeenCompacted store status
HasRunAs tells path groups Moving s now store store_now p status = HasBeenMoved s.keeper store status

-- nothing else ends a job without faults
abbrev pub HasAllDoneAs : (path : Bool) → Mode → Sides → (store : Side) → Ports → (status : ℕ) → Type 0
HasAllDoneAs path (OverKeeper job) s store p status = HasAllDone path job s p status
HasAllDoneAs path (OverStore job) s store p status = HasAllDone true job (over_store s store) p status
HasAllDoneAs path mode s store p status = Unit {0}

-- Over the keeper the store is left as it was, and over the store the keeper. A compaction touches the store alone, and a move the keeper
-- and the store alone.
abbrev pub LeavesWorld : {I O K Q N P C : Type 0} → (path : Bool) → Mode → (w w' : World I O K Q N P C) → Type 0
LeavesWorld path (OverKeeper job) w w' =
    (w'.store ≡ w.store) × LeavesKeeper path job w.keeper w'.keeper × LeavesOthers job (keeper_world w) (keeper_world w')
LeavesWorld path (OverStore job) w w' =
    (w'.keeper ≡ w.keeper) × LeavesKeeper true job w.store w'.store × LeavesOthers job (store_world w) (store_world w')
LeavesWorld path Compacting w w' = w' ≡ record w { store = w'.store }
LeavesWorld path Moving w w' = w' ≡ record w { keeper = w'.keeper; store = w'.store }

-- ## Crashes

-- a run that opened the keeper leaves it settled, unless it failed
abbrev pub SettlesKeeperAs : (path : Bool) → Mode → (old : Type 0) → (before now status : ℕ) → (settled : Type 0) → Type 0
SettlesKeeperAs path (OverKeeper job) old before now status settled = SettlesKeeper path job old before now status settled
SettlesKeeperAs path Moving old before now status settled = SettledSince before now settled
SettlesKeeperAs path mode old before now status settled = Unit {0}

-- A job leaves the store settled, unless it failed. After a compaction and a move with status 0 a crash leaves what it holds, and nothing
-- else; with another status it is settled, unless it failed, if a move asked it nothing as before.
abbrev pub SettlesStoreAs : Mode → (old : Type 0) → (before now status : ℕ) → (only settled : Type 0) → Type 0
SettlesStoreAs (OverKeeper job) old before now status only settled = Unit {0}
SettlesStoreAs (OverStore job) old before now status only settled = SettlesKeeper true job old before now status settled
SettlesStoreAs Compacting old before now status only settled =
    (status ≡ 0 → only) × (status ≢ 0 → SettledSince before now settled)
SettlesStoreAs Moving old before now status only settled =
    (status ≡ 0 → only) × (status ≢ 0 → old → SettledSince before now settled)

-- ## The program

-- the groups that words list
abbrev pub groups_listed : List (List ℕ) → List (List ℕ)
groups_listed words = groups_in (listed_groups words)

-- What the program made of its words: 5 exactly if they aren't in the set, and then all is as it was.
module _ {I O K Q N P C : Type 0} (left : I → Option (List ℕ)) (read : I → ℕ) (held : O → Option (List ℕ)) (written : O → ℕ)
    (keeper : Ghosts K) (store : Ghosts Q) (peers : N → Option (List (List ℕ))) (accepted : N → ℕ)
    (noted : N → Option (List PastConnection)) (listened : N → Option (List Listening)) (faults : N → ℕ) (tells : C → ℕ → Type 0) where
  abbrev pub sides : (w w' : World I O K Q N P C) → Sides
  sides w w' = sides_of left read held written keeper.held keeper.faults (keeper_world w) (keeper_world w')

  abbrev pub ports : (w w' : World I O K Q N P C) → Ports
  ports w w' = ports_of peers accepted noted listened faults (keeper_world w) (keeper_world w')

  pub record HasDone (words : List (List ℕ)) (w w' : World I O K Q N P C) (status : ℕ) : Type 0 where
    pub words_are : status ≡ 5 ↔ IsNone (mode_of words)
    pub untouched : status ≡ 5 → w' ≡ w
    pub clock : w'.clock ≡ w.clock
    -- Only a pipe, a server and a replay over a file touch the keeper or the store that keeps their journal, only a server the listeners
    -- and the spawner, and a compaction and a move nothing but the store and the keeper.
    pub leaves : IfSome (mode_of words) (λ mode. LeavesWorld (names_file words) mode w w')
    -- each opens the file that the words name for it
    pub files : IfSome (mode_of words) (λ mode. OpensFiles mode (path_of words) (store_of words) (keeper.asked w.keeper)
        (keeper.asked w'.keeper) (store.asked w.store) (store.asked w'.store) status)
    -- a crash after a run that opened the keeper leaves what it kept, unless the keeper failed
    pub settled : IfSome (mode_of words) (λ mode. SettlesKeeperAs (names_file words) mode (keeper.settled w.keeper) (keeper.faults w.keeper)
        (keeper.faults w'.keeper) status (keeper.settled w'.keeper))
    -- so does one after a run that opened the store
    pub stored : IfSome (mode_of words) (λ mode. SettlesStoreAs mode (store.settled w.store) (store.faults w.store) (store.faults w'.store)
        status (IsOnly (store.held w'.store) (store.crashes w'.store).leaves) (store.settled w'.store))
    -- counts of faults never fall
    pub input : read w.input ≤ read w'.input
    pub output : written w.output ≤ written w'.output
    -- what was read, answered, written and kept, and why the run ended
    pub run : IfSome (mode_of words) (λ mode. HasRunAs (tells w.clock) (names_file words) (groups_listed words) mode (sides w w')
        (keeper.crashes w'.keeper) (side store.held store.faults w.store w'.store) (store.crashes w'.store) (ports w w') status)
    -- nothing else ends a run without faults
    pub complete : IfSome (mode_of words) (λ mode. HasAllDoneAs (names_file words) mode (sides w w')
        (side store.held store.faults w.store w'.store) (ports w w') status)
