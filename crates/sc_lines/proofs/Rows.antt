-- What is appended row by row, and how bytes fall into rows.
use Rattle.std.proofs.Common.{◌≡◌, ℕ, zero, suc, ◌+◌, ◌-◌, ◌<◌, ◌≤◌, true, false, cond, List, [], ◌∷◌, ◌++◌, length, take, drop, map}
use Rattle.std.proofs.Common.{get_or, refl, ap, sym, ◌∙◌, append_assoc, append-nil, add-one, arith}
use Rattle.std.specs.Prelude.{nat_lt, Result, Ok, Err, is_err, is_ok}
use Rattle.std.specs.Borrow.{Bor}
use Rattle.std.specs.List.{flat_map}
use Rattle.std.proofs.Math.Seq.{drop-cons}
use Rattle.std.proofs.Math.ListN.{drop_of_length-le}
use Rattle.std.proofs.lemmas.Bool.{true≢false}
use Rattle.sc_lines.specs.Reading.{rows}

-- ## Appending

-- an element was pushed, where that succeeded
pub pushed : {A T E : Type 0} (r : Result T E) (xs now : List A) (x : A) → now ≡ cond (is_ok r) (xs ++ x ∷ []) xs → is_err r ≡ false
    → now ≡ xs ++ x ∷ []
pushed (Ok v) xs now x e h = e
pushed (Err v) xs now x e h = absurd (true≢false h)

-- one row more, whatever the default is
pub row_more : {A B : Type 0} (f : B → List ℕ) (s : A → B) (xs : List A) (place : ℕ) (d : A) (text now : List ℕ) → place < length xs
    → now ≡ text ++ f (s (get_or xs place d)) → now ++ flat_map f (map s (drop (place + 1) xs)) ≡ text ++ flat_map f (map s (drop place xs))
row_more f s xs place d text now h grown =
    let rest = flat_map f (map s (drop (place + 1) xs)) in
    let cut : flat_map f (map s (drop place xs)) ≡ f (s (get_or xs place d))
    ++ rest = rw add-one (ap (λ ys. flat_map f (map s ys)) (drop-cons xs place d h)) in
    ap (λ t. t ++ rest) grown ∙ append_assoc text (f (s (get_or xs place d))) rest ∙ ap (λ t. text ++ t) (sym cut)

-- all were appended
pub row_end : {A B : Type 0} (f : B → List ℕ) (s : A → B) (xs : List A) (place : ℕ) (text : List ℕ) → length xs ≤ place → text
    ++ flat_map f (map s (drop place xs)) ≡ text
row_end f s xs place text h = ap (λ ys. text ++ flat_map f (map s ys)) (drop_of_length-le xs h) ∙ append-nil text

-- ## Rows of bytes

abbrev pub seen : List (Bor (List ℕ)) → List (List ℕ)
seen found = map (λ row. row.now) found

seen_both : (xs ys : List (Bor (List ℕ))) → seen (xs ++ ys) ≡ seen xs ++ seen ys
seen_both [] ys = refl
seen_both (x ∷ xs) ys = ap (λ zs. x.now ∷ zs) (seen_both xs ys)

one_row : (size n : ℕ) (rest : List ℕ) → nat_lt (length rest) size ≡ false
    → rows size (suc n) rest ≡ take size rest ∷ rows size n (drop size rest)
unfolding rows
one_row size n rest e = rw e refl

-- one row more is whole
pub rows_more : (size most counter : ℕ) (found now : List (Bor (List ℕ))) (row : Bor (List ℕ)) (rest after : List ℕ) → counter < most
    → nat_lt (length rest) size ≡ false
    → row.now ≡ take size rest → after ≡ drop size rest → now ≡ found ++ row ∷ []
    → seen now ++ rows size (most - (counter + 1)) after ≡ seen found ++ rows size (most - counter) rest
rows_more size most counter found now row rest after h whole front back grown =
    let n = most - (counter + 1) in
    let e : most - counter ≡ suc n = omega arith in
    ap (λ xs. seen xs ++ rows size n after) grown ∙ ap (λ xs. xs ++ rows size n after) (seen_both found (row ∷ []))
    ∙ append_assoc (seen found) (row.now ∷ []) (rows size n after)
    ∙ ap (λ x. seen found ++ x ∷ rows size n after) front ∙ ap (λ xs. seen found ++ take size rest ∷ rows size n xs) back
    ∙ ap (λ xs. seen found ++ xs) (sym (one_row size n rest whole)) ∙ ap (λ k. seen found ++ rows size k rest) (sym e)

no_row : (size n : ℕ) (rest : List ℕ) → nat_lt (length rest) size ≡ true → rows size n rest ≡ []
unfolding rows
no_row size zero rest e = refl
no_row size (suc n) rest e = rw e refl

-- what is left is no row
pub rows_end : (size n : ℕ) (found : List (Bor (List ℕ))) (rest : List ℕ) → nat_lt (length rest) size ≡ true → seen found
    ++ rows size n rest ≡ seen found
rows_end size n found rest e = ap (λ xs. seen found ++ xs) (no_row size n rest e) ∙ append-nil (seen found)

-- there are as many rows as there may be
pub rows_full : (size most counter : ℕ) (found : List (Bor (List ℕ))) (rest : List ℕ) → most ≤ counter → seen found
    ++ rows size (most - counter) rest ≡ seen found
unfolding rows
rows_full size most counter found rest h =
    let e : most - counter ≡ 0 = omega arith in
    ap (λ k. seen found ++ rows size k rest) e ∙ append-nil (seen found)
