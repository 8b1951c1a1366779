-- Lists of which each two elements are so.
use Rattle.std.specs.Prelude.{ℕ, ◌<◌, List, [], ◌∷◌}
use Rattle.book_rule.specs.Ways.{Has}

-- each element and each later one
abbrev pub Pairwise : {A : Type 0} → (A → A → Type 0) → List A → Type 0
Pairwise R [] = Unit {0}
Pairwise {A} R (x ∷ xs) = ((y : A) → Has y xs → R x y) × Pairwise R xs

abbrev pub Ascends : List ℕ → Type 0
Ascends places = Pairwise (λ a b. a < b) places

abbrev pub Each : {A : Type 0} → (A → Type 0) → List A → Type 0
Each {A} P xs = (x : A) → Has x xs → P x
