-- Lists with a first element or a last one.
use Rattle.std.proofs.Common.{◌≡◌, ◌+◌, List, [], ◌∷◌, ◌++◌, Option, Some, None, length, refl, ap, ◌∙◌, arith, inl, inr}
use Rattle.std.proofs.Common.{length-append}
use Rattle.std.specs.Prelude.{◌⊎◌, option_map}
use Rattle.std.specs.List.{AllByRecursion}
use Rattle.std.specs.Option.{option_or}
use Rattle.trail_text.proofs.Reading.{same_some}

pub first_same : {X : Type 0} (x y : X) (xs ys : List X) → (x ∷ xs) ≡ (y ∷ ys) → x ≡ y
first_same {X} x y xs ys is = ap head_or is
  where
    head_or : List X → X
    head_or [] = x
    head_or (z ∷ zs) = z

pub rest_same : {X : Type 0} (x y : X) (xs ys : List X) → (x ∷ xs) ≡ (y ∷ ys) → xs ≡ ys
rest_same {X} x y xs ys is = ap tail_of is
  where
    tail_of : List X → List X
    tail_of [] = []
    tail_of (z ∷ zs) = zs

-- the last elements are the same, and so are the fronts
pub last_same : {X : Type 0} (xs ys : List X) (x y : X) → (xs ++ x ∷ []) ≡ (ys ++ y ∷ []) → (xs ≡ ys) × (x ≡ y)
last_same [] [] x y is = (refl, first_same x y [] [] is)
last_same [] (b ∷ ys) x y is = absurd (omega (arith, ap length is, length-append ys (y ∷ [])))
last_same (a ∷ xs) [] x y is = absurd (omega (arith, ap length is, length-append xs (x ∷ [])))
last_same (a ∷ xs) (b ∷ ys) x y is =
    let later = last_same xs ys x y (rest_same a b (xs ++ x ∷ []) (ys ++ y ∷ []) is) in
    (ap (λ z. z ∷ xs) (first_same a b (xs ++ x ∷ []) (ys ++ y ∷ []) is) ∙ ap (λ zs. b ∷ zs) later.0, later.1)

pub at_middle : {X : Type 0} (P : X → Type 0) (xs : List X) (y : X) (ys : List X) → AllByRecursion P (xs ++ y ∷ ys) → P y
at_middle P [] y ys all = all.0
at_middle P (x ∷ xs) y ys all = at_middle P xs y ys all.1

pub at_end : {X : Type 0} (P : X → Type 0) (xs : List X) (y : X) → AllByRecursion P xs → P y → AllByRecursion P (xs ++ y ∷ [])
at_end P [] y all one = (one, tt)
at_end P (x ∷ xs) y all one = (all.0, at_end P xs y all.1 one)

-- ## Options

pub mapped : {A B : Type 0} (f : A → B) (o : Option A) (y : B) → option_map f o ≡ Some y → (x : A) × (o ≡ Some x) × (f x ≡ y)
mapped f None y e = absurd cc
mapped f (Some x) y e = (x, refl, same_some (f x) y e)

pub either : {A : Type 0} (o p : Option A) (x : A) → option_or o p ≡ Some x → (o ≡ Some x) ⊎ (p ≡ Some x)
either None p x e = inr e
either (Some y) p x e = inl e
