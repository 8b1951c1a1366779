-- The units of a text, one after the other.
use Rattle.std.proofs.Common.{◌≡◌, ℕ, ◌+◌, ◌<◌, ◌≤◌, true, false, cond, List, [], ◌∷◌, ◌++◌, length, drop, get_or, refl, ap, sym, ◌∙◌}
use Rattle.std.proofs.Common.{append_assoc, append-nil, add-one, arith, length-drop}
use Rattle.std.specs.Prelude.{◌==◌}
use Rattle.std.proofs.Math.Seq.{drop-cons}
use Rattle.sc_lines.specs.Reading.{unit, units}

at_place : (bytes : List ℕ) (place : ℕ) → place < length bytes → drop place bytes ≡ get_or bytes place 0 ∷ drop (place + 1) bytes
at_place bytes place h = rw add-one (drop-cons bytes place 0 h)

two : (bytes : List ℕ) (place : ℕ) → place + 1 < length bytes → drop place bytes ≡ get_or bytes place 0 ∷ get_or bytes (place + 1) 0 ∷ drop
    (place + 2) bytes
two bytes place h =
    let low = get_or bytes place 0 in
    let high = get_or bytes (place + 1) 0 in
    let sum : place + 1 + 1 ≡ place + 2 = omega arith in
    at_place bytes place (omega arith) ∙ ap (λ ys. low ∷ ys) (at_place bytes (place + 1) h) ∙ ap (λ n. low ∷ high ∷ drop n bytes) sum

at_front : (low high : ℕ) (bytes : List ℕ) → units (low ∷ high ∷ bytes) ≡ cond (unit low high == 0) [] (unit low high ∷ units bytes)
unfolding units
at_front low high bytes = refl

module _ (bytes : List ℕ) (place : ℕ) (found : List ℕ) (h : place + 1 < length bytes) where
  -- one unit more
  pub unit_more : (x : ℕ) (now : List ℕ) → x ≡ unit (get_or bytes place 0) (get_or bytes (place + 1) 0) → (x == 0) ≡ false → now ≡ found
      ++ x ∷ [] → now ++ units (drop (place + 2) bytes) ≡ found ++ units (drop place bytes)
  unit_more x now is some grown =
      let rest = units (drop (place + 2) bytes) in
      ap (λ t. t ++ rest) grown ∙ append_assoc found (x ∷ []) rest ∙ ap (λ b. found ++ cond b [] (x ∷ rest)) (sym some)
      ∙ ap (λ y. found ++ cond (y == 0) [] (y ∷ rest)) is ∙ ap (λ t. found ++ t)
      (sym (at_front (get_or bytes place 0) (get_or bytes (place + 1) 0) (drop (place + 2) bytes)))
      ∙ ap (λ ys. found ++ units ys) (sym (two bytes place h))

  -- or it is 0
  pub unit_zero : (x : ℕ) → x ≡ unit (get_or bytes place 0) (get_or bytes (place + 1) 0) → (x == 0) ≡ true → found
      ++ units (drop place bytes) ≡ found
  unit_zero x is none =
      let rest = units (drop (place + 2) bytes) in
      ap (λ ys. found ++ units ys) (two bytes place h) ∙ ap (λ t. found ++ t)
      (at_front (get_or bytes place 0) (get_or bytes (place + 1) 0) (drop (place + 2) bytes))
      ∙ ap (λ y. found ++ cond (y == 0) [] (y ∷ rest)) (sym is) ∙ ap (λ b. found ++ cond b [] (x ∷ rest)) none ∙ append-nil found

too_few : (bytes : List ℕ) → length bytes ≤ 1 → units bytes ≡ []
unfolding units
too_few [] h = refl
too_few (low ∷ []) h = refl
too_few (low ∷ high ∷ bytes) h = absurd (omega arith)

pub units_end : (bytes : List ℕ) (place : ℕ) (found : List ℕ) → length bytes ≤ place + 1 → found ++ units (drop place bytes) ≡ found
units_end bytes place found h = ap (λ t. found ++ t) (too_few (drop place bytes) (omega (arith, length-drop place bytes)))
    ∙ append-nil found
