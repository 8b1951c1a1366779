-- Units as bytes.
use Rattle.std.proofs.Common.{◌≡◌, ℕ, ◌+◌, ◌/◌, ◌%◌, ◌<◌, ◌≤◌, List, [], ◌∷◌, ◌++◌, length, drop, get_or, refl, ap, sym, ◌∙◌, append_assoc}
use Rattle.std.proofs.Common.{append-nil, add-one}
use Rattle.std.specs.List.{flat_map}
use Rattle.std.proofs.Math.Seq.{drop-cons}
use Rattle.std.proofs.Math.ListN.{drop_of_length-le}
use Rattle.sc_words.specs.Asks.{utf16_bytes, zero_ended, needs_bytes}
use Rattle.sc_words.proofs.Lists.{read_and}

bytes_both : (xs ys : List ℕ) → utf16_bytes (xs ++ ys) ≡ utf16_bytes xs ++ utf16_bytes ys
bytes_both [] ys = refl
bytes_both (x ∷ xs) ys = ap (λ zs. x % 256 ∷ x / 256 ∷ zs) (bytes_both xs ys)

-- one unit more
pub units_more : (bytes now units : List ℕ) (i : ℕ) → i < length units → now ≡ bytes
    ++ (get_or units i 0 % 256 ∷ get_or units i 0 / 256 ∷ [])
    → now ++ utf16_bytes (drop (i + 1) units) ≡ bytes ++ utf16_bytes (drop i units)
units_more bytes now units i h e =
    let u = get_or units i 0 in
    let cut : drop i units ≡ u ∷ drop (i + 1) units = rw add-one (drop-cons units i 0 h) in
    ap (λ bs. bs ++ utf16_bytes (drop (i + 1) units)) e ∙ append_assoc bytes (u % 256 ∷ u / 256 ∷ []) (utf16_bytes (drop (i + 1) units))
    ∙ ap (λ us. bytes ++ utf16_bytes us) (sym cut)

pub units_end : (bytes units : List ℕ) (i : ℕ) → length units ≤ i → bytes ++ utf16_bytes (drop i units) ≡ bytes
units_end bytes units i h = ap (λ us. bytes ++ utf16_bytes us) (drop_of_length-le units h) ∙ append-nil bytes

-- one name more
pub needs_more : (bytes between now : List ℕ) (names : List (List ℕ)) (name : List ℕ) (i : ℕ) → i < length names
    → name ≡ get_or names i name
    → between ≡ bytes ++ utf16_bytes name → now ≡ between ++ (0 ∷ 0 ∷ [])
    → now ++ utf16_bytes (flat_map zero_ended (drop (i + 1) names)) ≡ bytes ++ utf16_bytes (flat_map zero_ended (drop i names))
needs_more bytes between now names name i h is e f =
    let more = flat_map zero_ended (drop (i + 1) names) in
    ap (λ bs. bs ++ utf16_bytes more) (f ∙ ap (λ bs. bs ++ (0 ∷ 0 ∷ [])) e ∙ append_assoc bytes (utf16_bytes name) (0 ∷ 0 ∷ []))
    ∙ append_assoc bytes (utf16_bytes name ++ (0 ∷ 0 ∷ [])) (utf16_bytes more)
    ∙ ap (λ bs. bytes ++ (bs ++ utf16_bytes more)) (sym (bytes_both name (0 ∷ [])))
    ∙ ap (λ bs. bytes ++ bs) (sym (bytes_both (zero_ended name) more))
    ∙ ap (λ ns. bytes ++ utf16_bytes (flat_map zero_ended ns)) (sym (read_and names i name h is))

pub needs_end : (bytes now : List ℕ) (names : List (List ℕ)) (i : ℕ) → length names ≤ i → now ≡ bytes ++ (0 ∷ 0 ∷ [])
    → bytes ++ utf16_bytes (flat_map zero_ended (drop i names)) ≡ utf16_bytes (flat_map zero_ended names) → now ≡ needs_bytes names
unfolding needs_bytes
needs_end bytes now names i h e before =
    let all : bytes ≡ utf16_bytes (flat_map zero_ended names) = sym (append-nil bytes)
    ∙ ap (λ ns. bytes ++ utf16_bytes (flat_map zero_ended ns)) (sym (drop_of_length-le names h)) ∙ before in
    e ∙ ap (λ bs. bs ++ (0 ∷ 0 ∷ [])) all ∙ sym (bytes_both (flat_map zero_ended names) (0 ∷ []))
