-- Programs that are started.
use Rattle.std.specs.Prelude.{ℕ, ◌≡◌, ◌-◌, List, [], ◌∷◌, ◌++◌, length, Option, None, Some, Result, Ok, Err, slice_get, ⊤}
use Rattle.outside.specs.Fates.{one_more}
use Rattle.outside.specs.InMemory.{HoldingMemory}
use Rattle.child_link.specs.Children.{ChildInMemory}
use Rattle.process_runner.specs.declared.spawning.Spawned.{Spawned}
use Rattle.process_runner.specs.declared.spawning.SpawnFault.{SpawnFault}
use Rattle.process_runner.specs.declared.spawning.SpawnFault.TheVariants.{NotFound, NoPath, Denied, Other}
use Rattle.process_runner.specs.declared.spawning.SpawnFaults.{SpawnFaults}

-- how often a fault came
abbrev pub count_of_fault : SpawnFaults → SpawnFault → ℕ
count_of_fault faults NotFound = faults.not_found
count_of_fault faults NoPath = faults.no_path
count_of_fault faults Denied = faults.denied
count_of_fault faults Other = faults.other

-- nothing failed yet
abbrev pub no_faults : SpawnFaults
no_faults = record { not_found = 0; no_path = 0; denied = 0; other = 0 }

-- one fault more, counted as itself and as no other
abbrev pub counted : SpawnFault → SpawnFaults → SpawnFaults
counted NotFound faults = record faults { not_found = one_more faults.not_found }
counted NoPath faults = record faults { no_path = one_more faults.no_path }
counted Denied faults = record faults { denied = one_more faults.denied }
counted Other faults = record faults { other = one_more faults.other }

-- the counts after a start
abbrev pub faults_after : {C : Type 0} → Result C SpawnFault → SpawnFaults → SpawnFaults
faults_after (Ok child) faults = faults
faults_after (Err fault) faults = counted fault faults

-- what was started after a start of some words: they come last where it succeeded
abbrev pub started_after : {C : Type 0} → Result C SpawnFault → List (List ℕ) → List (List (List ℕ)) → List (List (List ℕ))
started_after (Ok child) words started = started ++ words ∷ []
started_after (Err fault) words started = started

-- where the object tells what was started, it tells these words too
abbrev pub Starts : {C : Type 0} → Option (List (List (List ℕ))) → Option (List (List (List ℕ))) → Result C SpawnFault → List (List ℕ)
    → Type 0
Starts None now result words = ⊤
Starts (Some before) now result words = now ≡ Some (started_after result words before)

-- ## In memory

-- what becomes of a start: the child that it gives, or its fault
abbrev pub StartFate : Type 0
StartFate = Result (Spawned ChildInMemory HoldingMemory) SpawnFault

pub record SpawningMemory : Type 0 where
  -- the words of each program that was started, in order
  pub started : List (List (List ℕ))
  -- what becomes of each start to come, the next one last
  pub fates : List StartFate
  pub faults : SpawnFaults

-- the outcome of a start is the one that is set for it; if none is set no program is found, and if there is no memory for the words the
-- fault is Other
abbrev pub ComesTo : Option StartFate → StartFate → Type 0
ComesTo None result = result ≡ Err NotFound
ComesTo (Some (Err fault)) result = result ≡ Err fault
ComesTo (Some (Ok child)) (Ok given) = given ≡ child
ComesTo (Some (Ok child)) (Err fault) = fault ≡ Other

abbrev pub next_start : List StartFate → Option StartFate
next_start fates = slice_get fates (length fates - 1)

-- these are the ends of the child that the next start is to give
abbrev pub WillGive : SpawningMemory → ChildInMemory → HoldingMemory → Type 0
WillGive s link feed = next_start s.fates ≡ Some (Ok (record { link = link; feed = feed }))
