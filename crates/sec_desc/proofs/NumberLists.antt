-- Numbers of four bytes.
use Rattle.std.proofs.Common.{◌≡◌, ℕ, zero, suc, ◌+◌, ◌*◌, List, [], ◌∷◌, ◌++◌, drop, append_assoc, refl, sym, ap, ◌∙◌, add-one, arith}
use Rattle.std.proofs.lemmas.List.{append-nil, drop-drop}
use Rattle.sec_desc.specs.Numbers.{number_32, numbers_32}

-- a number more
numbers_suc : (i : ℕ) (bytes : List ℕ) → numbers_32 (suc i) bytes ≡ numbers_32 i bytes ++ number_32 (drop (4 * i) bytes) ∷ []
unfolding numbers_32
numbers_suc zero bytes = refl
numbers_suc (suc i) bytes =
    let at : drop (4 * i) (drop 4 bytes) ≡ drop (4 * suc i) bytes =
    drop-drop (4 * i) 4 bytes ∙ ap (λ (n : ℕ). drop n bytes) (omega arith) in
    let more : numbers_32 (suc i) (drop 4 bytes) ≡ numbers_32 i (drop 4 bytes) ++ number_32 (drop (4 * suc i) bytes) ∷ [] =
    rw (← at) (numbers_suc i (drop 4 bytes)) in
    ap (λ (ns : List ℕ). number_32 bytes ∷ ns) more

-- the same after others
pub one_more : (front : List ℕ) (i : ℕ) (bytes : List ℕ)
    → front ++ numbers_32 (i + 1) bytes ≡ (front ++ numbers_32 i bytes) ++ number_32 (drop (4 * i) bytes) ∷ []
one_more front i bytes = rw add-one
    (ap (λ (ns : List ℕ). front ++ ns) (numbers_suc i bytes)
    ∙ sym (append_assoc front (numbers_32 i bytes) (number_32 (drop (4 * i) bytes) ∷ [])))

pub none_yet : (front bytes : List ℕ) → front ++ numbers_32 0 bytes ≡ front
unfolding numbers_32
none_yet front bytes = append-nil front
