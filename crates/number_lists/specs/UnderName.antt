-- Lists of numbers under texts.
use Rattle.std.specs.Prelude.{ℕ, ◌≡◌, ◌≤◌, false, List, [], Option, None, Some, if◌then◌else◌}
use Rattle.std.specs.Map.{lookup}
use Rattle.scm_text.specs.Fold.{same_text}
use Rattle.scm_text.specs.Roomed.{Roomed}
use Rattle.scm_text.specs.Numbers.{has}

abbrev pub items_in : Option (Roomed ℕ) → List ℕ
items_in None = []
items_in (Some list) = list.items

abbrev pub room_in : Option (Roomed ℕ) → ℕ
room_in None = 0
room_in (Some list) = list.room

-- lists of numbers, each with its text and with room
pub record UnderName : Type 0 where
  pub entries : List (List ℕ × Roomed ℕ)

-- the numbers under a text
abbrev pub at : UnderName → List ℕ → List ℕ
at lists text = items_in (lookup (same_text text) lists.entries)

-- for how many more numbers there is room under a text
abbrev pub room : UnderName → List ℕ → ℕ
room lists text = room_in (lookup (same_text text) lists.entries)

-- the list changes under each text that is the same; other texts keep theirs, and their room
pub record Changes (old new : UnderName) (text : List ℕ) (change : List ℕ → List ℕ) : Type 0 where
  pub lists : (other : List ℕ) → at new other ≡ (if same_text text other then change (at old other) else at old other)
  pub rooms : (other : List ℕ) → same_text text other ≡ false → room old other ≤ room new other

-- there is room for the number, unless it is there
abbrev pub HasRoom : UnderName → List ℕ → ℕ → Type 0
HasRoom lists text number = has (at lists text) number ≡ false → 1 ≤ room lists text
