-- What contracts see of a keeper of changes.
use Rattle.std.specs.Prelude.{ℕ, List, Option, None}
use Rattle.outside.specs.Asked.{Paths}
use Rattle.record_journal.specs.Crashes.{AreCrashes, Crashes, nothing_is_left, nothing_left}

-- the ghosts of its trait
pub record Ghosts (K : Type 0) : Type 1 where
  pub held : K → Option (List ℕ)
  pub faults : K → ℕ
  pub settled : K → Type 0
  pub crashes : K → Crashes
  pub are_crashes : (k : K) → AreCrashes (held k) (crashes k) (settled k)
  pub asked : K → Paths

abbrev pub ghosts_of : {K : Type 0} → (held : K → Option (List ℕ)) → (K → ℕ) → (settled : K → Type 0) → (crashes : K → Crashes)
    → ((k : K) → AreCrashes (held k) (crashes k) (settled k)) → (K → Paths) → Ghosts K
ghosts_of held faults settled crashes are_crashes asked = record {
  held = held;
  faults = faults;
  settled = settled;
  crashes = crashes;
  are_crashes = are_crashes;
  asked = asked;
}

-- of a keeper that tells nothing
abbrev pub nothing_seen : Ghosts (Unit {0})
nothing_seen = record {
  held = λ keeper. None;
  faults = λ keeper. 0;
  settled = λ keeper. Unit {0};
  crashes = λ keeper. nothing_left;
  are_crashes = λ keeper. nothing_is_left None (Unit {0});
  asked = λ keeper. None;
}
