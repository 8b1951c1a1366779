-- Lists with one row a number, from 1 on, behind some first rows.
use Rattle.std.proofs.Common.{ℕ, zero, suc, ◌≡◌, ◌∙◌, ◌+◌, ◌<◌, ◌≤◌, ◌==◌, ◌||◌, Bool, true, false, cond, List, [], ◌∷◌, ◌++◌, None, Some}
use Rattle.std.proofs.Common.{filter, find, length, length-append, map, ap, sym, refl, subst, arith, eqb-true, ne_eqb}
use Rattle.std.specs.List.{list_any}
use Rattle.std.proofs.lemmas.List.{map-append}
use Rattle.std.proofs.lemmas.List.Elements.{filter-append}
use Rattle.std.proofs.lemmas.List.Folds.{list_any-append}
use Rattle.std.proofs.lemmas.Bool.{eqb-false, or_left, or_right}

abbrev pub built : {X : Type 0} → List X → (ℕ → X) → ℕ → List X
built base make zero = base
built base make (suc k) = built base make k ++ make (suc k) ∷ []

pub find_left : {X : Type 0} (p : X → Bool) (x : X) (xs ys : List X) → find p xs ≡ Some x → find p (xs ++ ys) ≡ Some x
find_left p x [] ys e = absurd cc
find_left p x (z ∷ xs) ys e =
    elim (p z) as (λ b. cond b (Some z) (find p xs) ≡ Some x → cond b (Some z) (find p (xs ++ ys)) ≡ Some x) [
      | true ↦ λ h. h
      | false ↦ λ h. find_left p x xs ys h
    ] e

pub find_right : {X : Type 0} (p : X → Bool) (xs ys : List X) → find p xs ≡ None → find p (xs ++ ys) ≡ find p ys
find_right p [] ys e = refl
find_right p (z ∷ xs) ys e =
    elim (p z) as (λ b. cond b (Some z) (find p xs) ≡ None → cond b (Some z) (find p (xs ++ ys)) ≡ find p ys) [
      | true ↦ λ h. absurd cc
      | false ↦ λ h. find_right p xs ys h
    ] e

-- a fact of each number up to this one
abbrev pub Each : (ℕ → Type 0) → ℕ → Type 0
Each P n = (k : ℕ) → 0 < k → k ≤ n → P k

pub fewer : (P : ℕ → Type 0) (n : ℕ) → Each P (suc n) → Each P n
fewer P n all k some lt = all k some (omega (arith, lt))

pub none_built : {X : Type 0} (p : X → Bool) (base : List X) (make : ℕ → X) (n : ℕ) → find p base ≡ None → Each (λ k. p (make k) ≡ false) n
    → find p (built base make n) ≡ None
none_built p base make zero none all = none
none_built p base make (suc n) none all =
    find_right p (built base make n) (make (suc n) ∷ []) (none_built p base make n none (fewer (λ k. p (make k) ≡ false) n all))
    ∙ ap (λ b. cond b (Some (make (suc n))) None) (all (suc n) (omega arith) (omega arith))

pub below : (n i : ℕ) → i ≤ suc n → (suc n ≡ i → ⊥) → i ≤ n
below n i lt apart = omega (arith, lt, apart)

pub find_built : {X : Type 0} (p : X → Bool) (base : List X) (make : ℕ → X) (i n : ℕ) → 0 < i → i ≤ n → find p base ≡ None
    → p (make i) ≡ true
    → Each (λ k. (k == i) ≡ false → p (make k) ≡ false) n → find p (built base make n) ≡ Some (make i)
find_built p base make i zero some lt none here other = absurd (omega (arith, some, lt))
find_built p base make i (suc n) some lt none here other =
    elim (suc n == i) as (λ b. (suc n == i) ≡ b → find p (built base make n ++ make (suc n) ∷ []) ≡ Some (make i)) [
      | true ↦ λ e.
          let same : suc n ≡ i = eqb-true (suc n) i e in
          find_right p (built base make n) (make (suc n) ∷ [])
          (none_built p base make n none (λ k s le. other k s (omega (arith, le)) (ne_eqb k i (λ q. omega (arith, q, same, le)))))
          ∙ subst (λ m. find p (make m ∷ []) ≡ Some (make i)) (sym same) (ap (λ b. cond b (Some (make i)) None) here)
      | false ↦ λ e.
          let apart = eqb-false (suc n) i e in
          find_left p (make i) (built base make n) (make (suc n) ∷ [])
          (find_built p base make i n some (below n i lt apart) none here (fewer (λ k. (k == i) ≡ false → p (make k) ≡ false) n other))
    ] refl

pub map_built : {X Y : Type 0} (f : X → Y) (base : List X) (make : ℕ → X) (base' : List Y) (make' : ℕ → Y) (n : ℕ) → map f base ≡ base'
    → Each (λ k. f (make k) ≡ make' k) n
    → map f (built base make n) ≡ built base' make' n
map_built f base make base' make' zero first all = first
map_built f base make base' make' (suc n) first all =
    map-append f (built base make n) (make (suc n) ∷ [])
    ∙ ap (λ ys. ys ++ f (make (suc n)) ∷ []) (map_built f base make base' make' n first (fewer (λ k. f (make k) ≡ make' k) n all))
    ∙ ap (λ y. built base' make' n ++ y ∷ []) (all (suc n) (omega arith) (omega arith))

-- a filter that drops none
pub filter_built : {X : Type 0} (p : X → Bool) (base : List X) (make : ℕ → X) (n : ℕ) → filter p base ≡ base
    → Each (λ k. p (make k) ≡ true) n → filter p (built base make n) ≡ built base make n
filter_built p base make zero first all = first
filter_built p base make (suc n) first all =
    filter-append p (built base make n) (make (suc n) ∷ [])
    ∙ ap (λ ys. ys ++ filter p (make (suc n) ∷ [])) (filter_built p base make n first (fewer (λ k. p (make k) ≡ true) n all))
    ∙ ap (λ b. built base make n ++ cond b (make (suc n) ∷ []) []) (all (suc n) (omega arith) (omega arith))

-- a filter that drops all
pub filter_none : {X : Type 0} (p : X → Bool) (make : ℕ → X) (n : ℕ) → Each (λ k. p (make k) ≡ false) n → filter p (built [] make n) ≡ []
filter_none p make zero all = refl
filter_none p make (suc n) all =
    filter-append p (built [] make n) (make (suc n) ∷ [])
    ∙ ap (λ ys. ys ++ filter p (make (suc n) ∷ [])) (filter_none p make n (fewer (λ k. p (make k) ≡ false) n all))
    ∙ ap (λ b. cond b (make (suc n) ∷ []) []) (all (suc n) (omega arith) (omega arith))

-- a filter that keeps one
pub filter_one : {X : Type 0} (p : X → Bool) (make : ℕ → X) (i n : ℕ) → 0 < i → i ≤ n → p (make i) ≡ true
    → Each (λ k. (k == i) ≡ false → p (make k) ≡ false) n
    → filter p (built [] make n) ≡ make i ∷ []
filter_one p make i zero some lt here other = absurd (omega (arith, some, lt))
filter_one p make i (suc n) some lt here other =
    filter-append p (built [] make n) (make (suc n) ∷ []) ∙
    elim (suc n == i) as (λ b. (suc n == i) ≡ b → filter p (built [] make n) ++ filter p (make (suc n) ∷ []) ≡ make i ∷ []) [
      | true ↦ λ e.
          let same : suc n ≡ i = eqb-true (suc n) i e in
          ap (λ ys. ys ++ filter p (make (suc n) ∷ [])) (filter_none p make n
          (λ k s le. other k s (omega (arith, le)) (ne_eqb k i (λ q. omega (arith, q, same, le)))))
          ∙ subst (λ m. filter p (make m ∷ []) ≡ make i ∷ []) (sym same) (ap (λ b. cond b (make i ∷ []) []) here)
      | false ↦ λ e.
          let apart = eqb-false (suc n) i e in
          ap (λ ys. ys ++ filter p (make (suc n) ∷ [])) (filter_one p make i n some (below n i lt apart) here
          (fewer (λ k. (k == i) ≡ false → p (make k) ≡ false) n other))
          ∙ ap (λ b. make i ∷ cond b (make (suc n) ∷ []) []) (other (suc n) (omega arith) (omega arith) e)
    ] refl

pub any_built : {X : Type 0} (p : X → Bool) (base : List X) (make : ℕ → X) (n : ℕ) → list_any p base ≡ false
    → Each (λ k. p (make k) ≡ false) n → list_any p (built base make n) ≡ false
any_built p base make zero first all = first
any_built p base make (suc n) first all =
    list_any-append p (built base make n) (make (suc n) ∷ [])
    ∙ ap (λ b. b || list_any p (make (suc n) ∷ [])) (any_built p base make n first (fewer (λ k. p (make k) ≡ false) n all))
    ∙ ap (λ b. b || false) (all (suc n) (omega arith) (omega arith))

pub length_built : {X : Type 0} (base : List X) (make : ℕ → X) (n : ℕ) → length (built base make n) ≡ length base + n
length_built base make zero = omega arith
length_built base make (suc n) =
    length-append (built base make n) (make (suc n) ∷ []) ∙ (let rest = length_built base make n in omega (arith, rest))

pub any_there : {X : Type 0} (p : X → Bool) (base : List X) (make : ℕ → X) (i n : ℕ) → 0 < i → i ≤ n → p (make i) ≡ true
    → list_any p (built base make n) ≡ true
any_there p base make i zero some lt here = absurd (omega (arith, some, lt))
any_there p base make i (suc n) some lt here =
    list_any-append p (built base make n) (make (suc n) ∷ []) ∙
    elim (suc n == i) as (λ b. (suc n == i) ≡ b → (list_any p (built base make n) || list_any p (make (suc n) ∷ [])) ≡ true) [
      | true ↦ λ e. or_right (list_any p (built base make n)) (p (make (suc n)) || false)
          (or_left (p (make (suc n))) false (subst (λ m. p (make m) ≡ true) (sym (eqb-true (suc n) i e)) here))
      | false ↦ λ e. or_left (list_any p (built base make n)) (p (make (suc n)) || false)
          (any_there p base make i n some (below n i lt (eqb-false (suc n) i e)) here)
    ] refl

pub find_base : {X : Type 0} (p : X → Bool) (base : List X) (make : ℕ → X) (x : X) (n : ℕ) → find p base ≡ Some x
    → find p (built base make n) ≡ Some x
find_base p base make x zero e = e
find_base p base make x (suc n) e = find_left p x (built base make n) (make (suc n) ∷ []) (find_base p base make x n e)
