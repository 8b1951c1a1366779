-- A body in fragments, one after the other.
use Rattle.std.proofs.Common.{◌≡◌, ℕ, zero, suc, ◌+◌, ◌-◌, ◌<◌, ◌≤◌, Bool, true, false, List, [], ◌∷◌, ◌++◌, length, take, drop, min}
use Rattle.std.proofs.Common.{get_or, refl, sym, ap, ◌∙◌, arith, append_assoc, append-nil, add-one}
use Rattle.std.specs.Prelude.{nat_eq}
use Rattle.std.proofs.Math.Seq.{drop-cons}
use Rattle.std.proofs.Math.ListN.{drop_of_length-le}
use Rattle.sc_client.specs.Requests.{request_fragment, request_fragments}

step : (n k call opnum : ℕ) (first : Bool) (rest : List ℕ) → k < n → 0 < length rest
    → request_fragments (n - k) call opnum first rest ≡ request_fragment call opnum first rest
    ++ request_fragments (n - (k + 1)) call opnum false (drop 1408 rest)
unfolding request_fragments
step n k call opnum first [] h some = absurd (omega arith)
step n k call opnum first (b ∷ rest) h some = let e : n - k ≡ suc (n - (k + 1)) = omega arith in rw e refl

-- one fragment more
pub fragment_more : (n k call opnum : ℕ) (first : Bool) (rest after text now : List ℕ) → k < n → 0 < length rest → after ≡ drop 1408 rest
    → now ≡ text ++ request_fragment call opnum first rest
    → now ++ request_fragments (n - (k + 1)) call opnum false after ≡ text ++ request_fragments (n - k) call opnum first rest
fragment_more n k call opnum first rest after text now h some cut grown =
    ap (λ t. t ++ request_fragments (n - (k + 1)) call opnum false after) grown
    ∙ append_assoc text (request_fragment call opnum first rest) (request_fragments (n - (k + 1)) call opnum false after)
    ∙ ap (λ r. text ++ (request_fragment call opnum first rest ++ request_fragments (n - (k + 1)) call opnum false r)) cut
    ∙ ap (λ r. text ++ r) (sym (step n k call opnum first rest h some))

nothing_left : (n call opnum : ℕ) (first : Bool) (rest : List ℕ) → length rest ≡ 0 → request_fragments n call opnum first rest ≡ []
unfolding request_fragments
nothing_left zero call opnum first rest e = refl
nothing_left (suc n) call opnum first [] e = refl
nothing_left (suc n) call opnum first (b ∷ rest) e = absurd (omega arith)

-- nothing is left to write
pub fragments_end : (n call opnum : ℕ) (first : Bool) (rest text : List ℕ) → length rest ≡ 0 → text
    ++ request_fragments n call opnum first rest ≡ text
fragments_end n call opnum first rest text e = ap (λ r. text ++ r) (nothing_left n call opnum first rest e) ∙ append-nil text

-- as many fragments as there may be
pub fragments_spent : (n k call opnum : ℕ) (first : Bool) (rest text : List ℕ) → n ≤ k → text
    ++ request_fragments (n - k) call opnum first rest ≡ text
unfolding request_fragments
fragments_spent n k call opnum first rest text h = let e : n - k ≡ 0 = omega arith in rw e (append-nil text)

-- ## Fronts

take_nil : (k : ℕ) → take {A = ℕ} k [] ≡ []
take_nil zero = refl
take_nil (suc k) = refl

-- as much of a front as there is
pub take_least : (n : ℕ) (xs : List ℕ) → take (min (length xs) n) xs ≡ take n xs
take_least zero xs = let e : min (length xs) 0 ≡ 0 = omega arith in ap (λ k. take k xs) e
take_least (suc n) [] = take_nil (min 0 (suc n))
take_least (suc n) (x ∷ xs) =
    let e : min (length (x ∷ xs)) (suc n) ≡ suc (min (length xs) n) = omega arith in
    ap (λ k. take k (x ∷ xs)) e ∙ ap (λ ys. x ∷ ys) (take_least n xs)
