-- A fold with one element more.
use Rattle.std.proofs.Common.{arith, ℕ, suc, ◌≡◌, ◌+◌, ◌<◌, List, [], ◌∷◌, ◌++◌, length, take, get_or, refl, sym, ap, ◌∙◌, subst}
use Rattle.std.specs.List.{FoldsTo}
use Rattle.std.proofs.Math.Seq.{take-suc}

pub folds_more : {P A : Type 0} (R : P → A → P → Type 0) (p : P) (xs : List A) (m : P) (x : A) (q : P) → FoldsTo R p xs m → R m x q
    → FoldsTo R p (xs ++ x ∷ []) q
folds_more R p [] m x q e r = (q, subst (λ s. R s x q) (sym e) r, refl)
folds_more R p (y ∷ ys) m x q f r = (f.0, f.1, folds_more R f.0 ys m x q f.2 r)

next_is : (i : ℕ) → suc i ≡ i + 1
next_is i = omega arith

-- the same at a place of a list
pub folds_next : {P A : Type 0} (R : P → A → P → Type 0) (p : P) (xs : List A) (i : ℕ) (d : A) (m q : P) → i < length xs
    → FoldsTo R p (take i xs) m
    → R m (get_or xs i d) q → FoldsTo R p (take (i + 1) xs) q
folds_next R p xs i d m q low f r = subst (λ ys. FoldsTo R p ys q) (sym (take-suc xs i d low) ∙ ap (λ n. take n xs) (next_is i))
    (folds_more R p (take i xs) m (get_or xs i d) q f r)
