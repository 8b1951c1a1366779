-- Sizes of entries.
use Rattle.std.proofs.Common.{◌≡◌, ℕ, suc, ◌+◌, ◌≤◌, ◌<◌, List, [], ◌∷◌, drop, length, get_or, ap, sym, ◌∙◌, add-one, arith}
use Rattle.std.proofs.Math.Seq.{drop-cons}
use Rattle.std.proofs.Math.ListN.{drop_of_length-le}
use Rattle.sec_desc.specs.declared.value.Ace.{Ace}
use Rattle.sec_desc.specs.Writing.{size_of_ace, size_of_aces}

-- an entry has a byte and more
pub few_aces : (aces : List Ace) → length aces ≤ size_of_aces aces
unfolding size_of_aces
few_aces [] = omega arith
few_aces (ace ∷ aces) = let rest = few_aces aces in omega arith

-- from an entry on
pub size_from : (aces : List Ace) (i : ℕ) (ace : Ace) → i < length aces → ace ≡ get_or aces i ace
    → size_of_aces (drop i aces) ≡ size_of_ace ace + size_of_aces (drop (i + 1) aces)
unfolding size_of_aces
size_from aces i ace lt is =
    let cut = ap size_of_aces (drop-cons aces i ace lt) in
    let one : size_of_ace (get_or aces i ace) ≡ size_of_ace ace = ap size_of_ace (sym is) in
    rw add-one (cut ∙ ap (λ n. n + size_of_aces (drop (suc i) aces)) one)

pub size_of_none : (aces : List Ace) (i : ℕ) → length aces ≤ i → size_of_aces (drop i aces) ≡ 0
unfolding size_of_aces
size_of_none aces i le = ap size_of_aces (drop_of_length-le aces le)
