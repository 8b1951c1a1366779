-- What becomes of calls at an object in memory.
use Rattle.std.specs.Prelude.{ℕ, ◌≡◌, ◌+◌, ◌-◌, ◌^◌, min, Bool, false, IsTrue, List, length, take, slice_index_or, if◌then◌else◌}

-- The calls to come stand in a list, the next one last. Whether the next is to fail; where nothing is said it isn't.
abbrev pub fails_next : List Bool → Bool
fails_next fails = slice_index_or fails (length fails - 1) false

-- what is left after a call
abbrev pub later : {A : Type 0} → List A → List A
later fates = take (length fates - 1) fates

-- one fault more, up to the greatest number that a count can be
abbrev pub one_more : ℕ → ℕ
one_more faults = min (faults + 1) (2 ^ 64 - 1)

-- a call that is to fail has failed, and each that failed is counted once
pub record IsTold (fails fails_now : List Bool) (faults faults_now : ℕ) (failed : Bool) : Type 0 where
  pub told : IsTrue (fails_next fails) → IsTrue failed
  pub later : fails_now ≡ later fails
  pub counted : faults_now ≡ (if failed then one_more faults else faults)
