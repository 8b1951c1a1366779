-- A list that one element was taken out of.
use Rattle.std.proofs.Common.{◌≡◌, All, arith, List, ℕ, ◌-◌, ◌<◌, length, swap_remove, set, get_or, subst, sym, take}
use Rattle.std.proofs.lemmas.List.Elements.{All-set, All-take}

pub all_but_one : {X : Type 0} (P : X → Type 0) (xs : List X) (i : ℕ) (d : X) → i < length xs → All P xs → All P (swap_remove xs i d)
all_but_one P xs i d lt all =
    All-take P (length xs - 1) (set xs i (get_or xs (length xs - 1) d))
    (All-set P xs i (get_or xs (length xs - 1) d) (all (length xs - 1) d (omega arith)) all)

pub any_one : {X : Type 0} (P : X → Type 0) (xs : List X) (i : ℕ) (x : X) → i < length xs → x ≡ get_or xs i x → All P xs → P x
any_one P xs i x lt is all = subst P (sym is) (all i x lt)

pub all_front : {X : Type 0} (xs ys : List X) (n : ℕ) (P : X → Type 0) → ys ≡ take n xs → All P xs → All P ys
all_front {X} xs ys n P is all = subst (λ (zs : List X). All P zs) (sym is) (All-take P n xs all)
