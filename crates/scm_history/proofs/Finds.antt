-- What is found in a list that is changed.
use Rattle.std.proofs.Common.{ℕ, ◌≡◌, ◌∙◌, ◌<◌, ◌==◌, Bool, true, false, cond, List, [], ◌∷◌, ◌++◌, Option, None, Some, filter, find, map}
use Rattle.std.proofs.Common.{ap, refl, subst, eqb-true}
use Rattle.std.specs.Prelude.{All, is_some, option_map}
use Rattle.std.proofs.lemmas.List.Elements.{All-head, All-tail}

-- one more that doesn't pass isn't found
pub find_push : {X : Type 0} (p : X → Bool) (xs : List X) (y : X) → p y ≡ false → find p (xs ++ y ∷ []) ≡ find p xs
find_push p [] y other = rw other refl
find_push p (x ∷ xs) y other = ap (λ r. cond (p x) (Some x) r) (find_push p xs y other)

-- what isn't found isn't found in fewer
pub none_filter : {X : Type 0} (p q : X → Bool) (xs : List X) → is_some (find p xs) ≡ false → is_some (find p (filter q xs)) ≡ false
none_filter p q [] none = refl
none_filter p q (x ∷ xs) none =
    elim (p x) as (λ b. p x ≡ b → is_some (cond b (Some x) (find p xs)) ≡ false
    → is_some (find p (cond (q x) (x ∷ filter q xs) (filter q xs))) ≡ false) [
      | true ↦ λ e h. absurd cc
      | false ↦ λ e h. elim (q x) as (λ b. is_some (find p (cond b (x ∷ filter q xs) (filter q xs))) ≡ false)
          [ true ↦ rw e (none_filter p q xs h) | false ↦ none_filter p q xs h ]
    ] refl none

-- a map that changes no test and nobody who passes it
pub find_map : {X : Type 0} (p : X → Bool) (f : X → X) → ((x : X) → p (f x) ≡ p x) → ((x : X) → p x ≡ true → f x ≡ x) → (xs : List X)
    → find p (map f xs) ≡ find p xs
find_map p f same kept [] = refl
find_map p f same kept (x ∷ xs) =
    ap (λ b. cond b (Some (f x)) (find p (map f xs))) (same x)
    ∙ elim (p x) as (λ b. p x ≡ b → cond b (Some (f x)) (find p (map f xs)) ≡ cond b (Some x) (find p xs)) [
      | true ↦ λ e. ap (λ y. Some y) (kept x e)
      | false ↦ λ e. find_map p f same kept xs
    ] refl

-- a map that changes no test finds whom it found, changed
pub found_map : {X : Type 0} (p : X → Bool) (f : X → X) → ((x : X) → p (f x) ≡ p x) → (xs : List X)
    → find p (map f xs) ≡ option_map f (find p xs)
found_map p f same [] = refl
found_map p f same (x ∷ xs) =
    ap (λ b. cond b (Some (f x)) (find p (map f xs))) (same x)
    ∙ elim (p x) as (λ b. cond b (Some (f x)) (find p (map f xs)) ≡ option_map f (cond b (Some x) (find p xs))) [
      | true ↦ refl
      | false ↦ found_map p f same xs
    ]

-- a filter that keeps whom was found
pub found_kept : {X : Type 0} (p q : X → Bool) (xs : List X) (x : X) → find p xs ≡ Some x → q x ≡ true → find p (filter q xs) ≡ Some x
found_kept p q [] x e keeps = absurd cc
found_kept p q (y ∷ ys) x e keeps =
    elim (p y) as (λ b. p y ≡ b → cond b (Some y) (find p ys) ≡ Some x → find p (cond (q y) (y ∷ filter q ys) (filter q ys)) ≡ Some x) [
      | true ↦ λ h g. (let same : y ≡ x = cc in subst (λ z. q z ≡ true → find p (cond (q y) (y ∷ filter q ys) (filter q ys)) ≡ Some x) same
          (λ k. rw (k, h) g) keeps)
      | false ↦ λ h g. elim (q y) as (λ b. find p (cond b (y ∷ filter q ys) (filter q ys)) ≡ Some x)
          [ true ↦ rw h (found_kept p q ys x g keeps) | false ↦ found_kept p q ys x g keeps ]
    ] refl e

-- who is found by its number has one below the next
pub found_below : {X : Type 0} (number : X → ℕ) (n next : ℕ) (xs : List X) → All (λ x. number x < next) xs
    → is_some (find (λ x. number x == n) xs) ≡ true → n < next
found_below number n next [] below there = absurd cc
found_below number n next (x ∷ xs) below there =
    elim (number x == n) as (λ b. (number x == n) ≡ b → is_some (cond b (Some x) (find (λ y. number y == n) xs)) ≡ true → n < next) [
      | true ↦ λ e h. subst (λ m. m < next) (eqb-true (number x) n e) (All-head (λ y. number y < next) x xs below)
      | false ↦ λ e h. found_below number n next xs (All-tail (λ y. number y < next) x xs below) h
    ] refl there

-- ## What is told of whom is found

pub is_some-map : {X Y : Type 0} (g : X → Y) (found : Option X) → is_some (option_map g found) ≡ is_some found
is_some-map g None = refl
is_some-map g (Some x) = refl

-- a filter that keeps whom was found
pub told_filter : {X Y : Type 0} (g : X → Y) (p q : X → Bool) (y : Y) → ((x : X) → p x ≡ true → g x ≡ y → q x ≡ true) → (xs : List X)
    → option_map g (find p xs) ≡ Some y → option_map g (find p (filter q xs)) ≡ Some y
told_filter g p q y keeps [] e = absurd cc
told_filter g p q y keeps (x ∷ xs) e =
    elim (p x) as (λ b. p x ≡ b → option_map g (cond b (Some x) (find p xs)) ≡ Some y
    → option_map g (find p (cond (q x) (x ∷ filter q xs) (filter q xs))) ≡ Some y) [
      | true ↦ λ h t. (let same : g x ≡ y = cc in rw (keeps x h same, h) t)
      | false ↦ λ h t. elim (q x) as (λ b. option_map g (find p (cond b (x ∷ filter q xs) (filter q xs))) ≡ Some y)
          [ true ↦ rw h (told_filter g p q y keeps xs t) | false ↦ told_filter g p q y keeps xs t ]
    ] refl e

-- one more
pub told_push : {X Y : Type 0} (g : X → Y) (p : X → Bool) (y : Y) (xs : List X) (more : X) → option_map g (find p xs) ≡ Some y
    → option_map g (find p (xs ++ more ∷ [])) ≡ Some y
told_push g p y [] more e = absurd cc
told_push g p y (x ∷ xs) more e =
    elim (p x) as (λ b. option_map g (cond b (Some x) (find p xs)) ≡ Some y
    → option_map g (cond b (Some x) (find p (xs ++ more ∷ []))) ≡ Some y) [ true ↦ λ h. h | false ↦ λ h. told_push g p y xs more h ] e
