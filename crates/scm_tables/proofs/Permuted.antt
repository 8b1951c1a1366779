-- Sums and counts of what becomes due, in whatever order it is gone over.
use Rattle.std.proofs.Common.{ℕ, ◌≡◌, ◌≤◌, ◌+◌, ◌∙◌, Bool, List, arith, drop, filter, length, min, refl, sym}
use Rattle.std.specs.List.Sorted.{IsPermutation}
use Rattle.std.proofs.lemmas.List.{at_drop_all}
use Rattle.std.proofs.lemmas.List.Recursion.{is_sum_by}
use Rattle.std.proofs.lemmas.List.Sorted.{sum_by-IsPermutation}
use Rattle.start_plan.specs.Owed.{total}
use Rattle.scm_tables.specs.Firing.{one_if}
use Rattle.scm_tables.proofs.Opened.{count_cons}

pub same_total : {X : Type 0} (f : X → ℕ) (xs ys : List X) → IsPermutation xs ys → total f ys ≡ total f xs
same_total f xs ys same =
    is_sum_by (total f) f refl (λ _ _. refl) ys ∙ sum_by-IsPermutation f xs ys same ∙ sym (is_sum_by (total f) f refl (λ _ _. refl) xs)

pub same_count : {X : Type 0} (p : X → Bool) (xs ys : List X) → IsPermutation xs ys → length (filter p ys) ≡ length (filter p xs)
same_count p xs ys same =
    is_sum_by (λ zs. length (filter p zs)) (λ x. one_if (p x)) refl (count_cons p) ys ∙ sum_by-IsPermutation (λ x. one_if (p x)) xs ys same
    ∙ sym (is_sum_by (λ zs. length (filter p zs)) (λ x. one_if (p x)) refl (count_cons p) xs)

-- all rows are counted once none is left
pub counted_all : {X : Type 0} (f : X → ℕ) (counted place most : ℕ) (xs ys : List X) → IsPermutation xs ys → length ys ≤ place
    → counted ≤ most
    → min (counted + total f (drop place ys)) most ≡ min (total f ys) most → counted ≡ min (total f xs) most
counted_all f counted place most xs ys same end few is =
    let none : total f (drop place ys) ≡ 0 = at_drop_all (total f) ys place end in
    omega (arith, none, same_total f xs ys same, few, is)
