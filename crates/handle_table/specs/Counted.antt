-- Counts under numbers.
use Rattle.std.specs.Prelude.{ℕ, ◌≡◌, ◌==◌, List, nat_eq, unwrap_or, if◌then◌else◌}
use Rattle.std.specs.Map.{lookup}

-- the counts, and for how many numbers more there is room
pub record Counted : Type 0 where
  pub entries : List (ℕ × ℕ)
  pub room : ℕ

-- the count under a number
abbrev pub count : Counted → ℕ → ℕ
count counts number = unwrap_or (lookup (nat_eq number) counts.entries) 0

-- one count changes
abbrev pub CountChanges : Counted → Counted → ℕ → (ℕ → ℕ) → Type 0
CountChanges old new number change = (other : ℕ) → count new other ≡ (if number == other then change (count old other) else count old other)
