-- Rows that are found by their numbers.
use Rattle.std.proofs.Common.{ℕ, ◌≡◌, ◌∙◌, ◌==◌, Bool, true, false, cond, List, [], ◌∷◌, ◌++◌, Some, find, map, ap, refl}
use Rattle.std.specs.Prelude.{is_some}
use Rattle.scm_runs.proofs.Lists.{same_some}

-- a map that changes no number finds the same
pub found_mapped : {X : Type 0} (number : X → ℕ) (g : X → X) (n : ℕ) → ((x : X) → number (g x) ≡ number x) → (xs : List X)
    → is_some (find (λ x. number x == n) (map g xs)) ≡ is_some (find (λ x. number x == n) xs)
found_mapped number g n same [] = refl
found_mapped number g n same (x ∷ xs) =
    ap (λ m. is_some (cond (m == n) (Some (g x)) (find (λ y. number y == n) (map g xs)))) (same x)
    ∙ elim (number x == n) as (λ b. is_some (cond b (Some (g x)) (find (λ y. number y == n) (map g xs))) ≡ is_some
    (cond b (Some x) (find (λ y. number y == n) xs))) [ true ↦ refl | false ↦ found_mapped number g n same xs ]

-- who is found is found where there are more
pub found_more : {X : Type 0} (p : X → Bool) (xs ys : List X) → is_some (find p xs) ≡ true → is_some (find p (xs ++ ys)) ≡ true
found_more p [] ys e = absurd cc
found_more p (x ∷ xs) ys e =
    elim (p x) as (λ b. is_some (cond b (Some x) (find p xs)) ≡ true → is_some (cond b (Some x) (find p (xs ++ ys))) ≡ true)
    [ true ↦ λ h. refl | false ↦ λ h. found_more p xs ys h ] e

-- who is found by one test is found by another that it passes
pub found_too : {X : Type 0} (p q : X → Bool) (x : X) (xs : List X) → find p xs ≡ Some x → q x ≡ true → is_some (find q xs) ≡ true
found_too p q x [] e h = absurd cc
found_too p q x (y ∷ ys) e h =
    elim (p y) as (λ b. cond b (Some y) (find p ys) ≡ Some x → is_some (cond (q y) (Some y) (find q ys)) ≡ true) [
      | true ↦ λ g. (let passes : q y ≡ true = ap q (same_some y x g) ∙ h in rw passes refl)
      | false ↦ λ g. elim (q y) as (λ b. is_some (cond b (Some y) (find q ys)) ≡ true) [ true ↦ refl | false ↦ found_too p q x ys g h ]
    ] e
