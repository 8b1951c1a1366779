-- Pairs of a list, lists that go on, and lists without one element.
use Rattle.std.proofs.Common.{◌≡◌, ◌⊎◌, ℕ, zero, suc, ◌+◌, ◌<◌, List, [], ◌∷◌, ◌++◌, length, take, drop, slice_get, slice_index_or, refl}
use Rattle.std.proofs.Common.{sym, ap, subst, inl, inr, ⊎_elim, ◌∙◌, arith}
use mathlib.Core.List.{IsPrefix}
use Rattle.book_rule.specs.Ways.{Has}
use Rattle.book_rule.proofs.Places.{has_cases, has_left, has_one, has_right}
use Rattle.scm_server.specs.Pairs.{Each, Pairwise}

-- ## One more

-- one element more, which each earlier one is so with
pub pairwise_more : {A : Type 0} (R : A → A → Type 0) (xs : List A) (y : A) → Pairwise R xs → ((x : A) → Has x xs → R x y)
    → Pairwise R (xs ++ y ∷ [])
pairwise_more R [] y pairs last = ((λ z none. absurd none), tt)
pairwise_more R (x ∷ xs) y pairs last = (
  (λ z there. ⊎_elim (λ (one : Has z xs). pairs.0 z one) (λ (one : Has z (y ∷ [])). subst (λ (w : _). R x w) (sym (has_one z y one))
      (last x (inl refl))) (has_cases z xs (y ∷ []) there)),
  pairwise_more R xs y pairs.1 (λ w there. last w (inr there)),
)

pub each_more : {A : Type 0} (P : A → Type 0) (xs : List A) (y : A) → Each P xs → P y → Each P (xs ++ y ∷ [])
each_more P xs y all last x there =
    ⊎_elim (λ (old : Has x xs). all x old) (λ (new : Has x (y ∷ [])). subst P (sym (has_one x y new)) last) (has_cases x xs (y ∷ []) there)

-- pairs that are otherwise so
pub pairwise_so : {A : Type 0} (R S : A → A → Type 0) → ((x y : A) → R x y → S x y) → (xs : List A) → Pairwise R xs → Pairwise S xs
pairwise_so R S so [] pairs = tt
pairwise_so R S so (x ∷ xs) pairs = ((λ y there. so x y (pairs.0 y there)), pairwise_so R S so xs pairs.1)

-- two lists, each element of the first so with each of the second
pub pairwise_both : {A : Type 0} (R : A → A → Type 0) (xs ys : List A) → Pairwise R xs → Pairwise R ys
    → ((x : A) → Has x xs → (y : A) → Has y ys → R x y) → Pairwise R (xs ++ ys)
pairwise_both R [] ys first then both = then
pairwise_both R (x ∷ xs) ys first then both = (
  (λ y there. ⊎_elim (λ (one : Has y xs). first.0 y one) (λ (other : Has y ys). both x (inl refl) y other) (has_cases y xs ys there)),
  pairwise_both R xs ys first.1 then (λ z there y other. both z (inr there) y other),
)

-- ## One less

pub has_mid : {A : Type 0} (front : List A) (w : A) (rest : List A) → Has w (front ++ w ∷ rest)
has_mid front w rest = has_right w front (w ∷ rest) (inl refl)

pub has_without : {A : Type 0} (x : A) (front : List A) (w : A) (rest : List A) → Has x (front ++ rest) → Has x (front ++ w ∷ rest)
has_without x front w rest there =
    ⊎_elim (λ (before : Has x front). has_left x front (w ∷ rest) before)
    (λ (behind : Has x rest). has_right x front (w ∷ rest) (inr behind)) (has_cases x front rest there)

pub pairwise_without : {A : Type 0} (R : A → A → Type 0) (front : List A) (w : A) (rest : List A) → Pairwise R (front ++ w ∷ rest)
    → Pairwise R (front ++ rest)
pairwise_without R [] w rest pairs = pairs.1
pairwise_without R (x ∷ front) w rest pairs = (
  (λ y there. pairs.0 y (has_without y front w rest there)),
  pairwise_without R front w rest pairs.1,
)

-- the one that is left out, with each other
pub pairwise_with : {A : Type 0} (R : A → A → Type 0) → ((x y : A) → R x y → R y x) → (front : List A) (w : A) (rest : List A)
    → Pairwise R (front ++ w ∷ rest) → (x : A) → Has x (front ++ rest) → R w x
pairwise_with R turned [] w rest pairs x there = pairs.0 x there
pairwise_with R turned (y ∷ front) w rest pairs x (inl here) = subst (R w) (sym here) (turned y w (pairs.0 w (has_mid front w rest)))
pairwise_with R turned (y ∷ front) w rest pairs x (inr there) = pairwise_with R turned front w rest pairs.1 x there

-- ## Places

pub get_drop : {A : Type 0} (n : ℕ) (xs : List A) → slice_get (drop n xs) 0 ≡ slice_get xs n
get_drop zero xs = refl
get_drop (suc n) [] = refl
get_drop (suc n) (x ∷ xs) = get_drop n xs

-- ## Lists that go on

-- an element of a list that goes on from another is one of that, or stands behind all of it
pub record Within {A : Type 0} (xs front : List A) (y : A) : Type 0 where
  pub rest : List A
  pub is : xs ≡ front ++ y ∷ rest

pub split_at : {A : Type 0} (xs more front : List A) (y : A) (rest : List A) → xs ++ more ≡ front ++ y ∷ rest → Within xs front y
    ⊎ IsPrefix xs front
split_at [] more front y rest is = inr (front, refl)
split_at (x ∷ xs) more [] y rest is =
    let same : x ≡ y = cc in
    inl (record { rest = xs; is = ap (λ (z : _). z ∷ xs) same })
split_at (x ∷ xs) more (z ∷ front) y rest is =
    let heads : x ≡ z = cc in
    let tails : xs ++ more ≡ front ++ y ∷ rest = cc in
    ⊎_elim
    (λ (w : Within xs front y). inl (record {
      rest = w.rest;
      is = ap (λ (v : List _). x ∷ v) w.is
          ∙ ap (λ (v : _). v ∷ (front ++ y ∷ w.rest)) heads;
    }))
    (λ (p : IsPrefix xs front). inr (p.0, ap (λ (v : List _). x ∷ v) p.1 ∙ ap (λ (v : _). v ∷ front) heads))
    (split_at xs more front y rest tails)

-- ## One element taken out

pub split_out : {A : Type 0} (xs : List A) (i : ℕ) (x : A) → i < length xs → x ≡ slice_index_or xs i x → xs ≡ take i xs
    ++ x ∷ drop (i + 1) xs
split_out [] i x short is = absurd (omega (arith, short))
split_out (y ∷ ys) zero x short is = ap (λ (z : _). z ∷ ys) (sym is)
split_out (y ∷ ys) (suc i) x short is =
    let next : suc (i + 1) ≡ suc i + 1 = omega arith in
    subst (λ (n : ℕ). y ∷ ys ≡ y ∷ (take i ys ++ x ∷ drop n (y ∷ ys))) next
    (ap (λ (zs : List _). y ∷ zs) (split_out ys i x (omega (arith, short)) is))

pub has_it : {A : Type 0} (xs : List A) (i : ℕ) (x : A) → i < length xs → x ≡ slice_index_or xs i x → Has x xs
has_it xs i x short is = subst (Has x) (sym (split_out xs i x short is)) (has_mid (take i xs) x (drop (i + 1) xs))

pub each_without : {A : Type 0} (P : A → Type 0) (xs ys : List A) (i : ℕ) (x : A) → i < length xs → x ≡ slice_index_or xs i x
    → ys ≡ take i xs ++ drop (i + 1) xs → Each P xs → Each P ys
each_without P xs ys i x short is left all y there =
    all y (subst (Has y) (sym (split_out xs i x short is)) (has_without y (take i xs) x (drop (i + 1) xs) (subst (Has y) left there)))
