-- Units of two bytes.
use Rattle.std.proofs.Common.{◌≡◌, ℕ, zero, suc, ◌+◌, ◌*◌, List, [], ◌∷◌, ◌++◌, drop, refl, ap, ◌∙◌, add-one, arith}
use Rattle.std.proofs.lemmas.List.{drop-drop}
use Rattle.ndr_body.specs.Units.{half, le_units}

-- a unit more
units_suc : (i : ℕ) (bytes : List ℕ) → le_units (suc i) bytes ≡ le_units i bytes ++ half (drop (2 * i) bytes) ∷ []
unfolding le_units
units_suc zero bytes = refl
units_suc (suc i) bytes =
    let at : drop (2 * i) (drop 2 bytes) ≡ drop (2 * suc i) bytes = drop-drop (2 * i) 2 bytes
    ∙ ap (λ (n : ℕ). drop n bytes) (omega arith) in
    let more : le_units (suc i) (drop 2 bytes) ≡ le_units i (drop 2 bytes)
    ++ half (drop (2 * suc i) bytes) ∷ [] = rw (← at) (units_suc i (drop 2 bytes)) in
    ap (λ (us : List ℕ). half bytes ∷ us) more

pub units_more : (i : ℕ) (bytes : List ℕ) → le_units (i + 1) bytes ≡ le_units i bytes ++ half (drop (2 * i) bytes) ∷ []
units_more i bytes = rw add-one (units_suc i bytes)

pub no_units : (bytes : List ℕ) → le_units 0 bytes ≡ []
unfolding le_units
no_units bytes = refl
