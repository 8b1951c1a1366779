-- Controls and their lines.
use Rattle.std.proofs.Common.{arith, ℕ, ◌≡◌, ◌^◌, ◌<◌, ◌≤◌, List, [], ◌∷◌, ◌++◌, ◌==◌, false, length, drop, None, Some, refl, sym, ap, ◌∙◌}
use Rattle.std.proofs.Common.{subst}
use Rattle.std.specs.Prelude.{is_none, bytes_eq, codes, decimal, option_and_then}
use Rattle.std.specs.List.{All, join_with_byte}
use Rattle.std.proofs.lemmas.List.{length-append}
use Rattle.std.proofs.lemmas.List.Elements.{All-cons, All-nil, All-from_recursion}
use Rattle.std.proofs.lemmas.List.Splits.{join_with_byte-slice_split}
use Rattle.std.proofs.lemmas.Slice.Eq.{bytes_eq-Decides}
use Rattle.child_link.specs.Words.{words_in, nth_word, word_code}
use Rattle.child_link.specs.Lines.{control_in, control_text, code_in, front_of, handed_on}
use Rattle.child_link.proofs.Splits.{none_some, split_joined}
use Rattle.child_link.proofs.Reports.{and_then_some, code_read, front_is, front_on, if_some, if_then, joined_short, number_again}
use Rattle.child_link.proofs.Reports.{words_clean, words_end}

-- a word is the decimal form of the number that it is read as
code_words : (words : List (List ℕ)) (n : ℕ) → code_in words ≡ Some n → (words ≡ decimal n ∷ []) × (n < 2 ^ 32)
unfolding code_in
code_words words n e =
    let at = and_then_some _ (word_code (nth_word words 0)) n e in
    let end = if_some (is_none (nth_word words 1)) at.0 n at.2 in
    let h = code_read words at.0 at.1 in
    subst (λ m. (words ≡ decimal m ∷ []) × (m < 2 ^ 32)) end.1 (h.0 ∙ ap (λ ws. decimal at.0 ∷ ws) (words_end (drop 1 words) end.0), h.1)

control_words : (words : List (List ℕ)) (n : ℕ) → control_in words ≡ Some n → (words ≡ codes "CONTROL" ∷ decimal n ∷ []) × (n < 2 ^ 32)
unfolding control_in
control_words [] n e = absurd (none_some None n refl e)
control_words (name ∷ words) n e =
    let told = if_then (bytes_eq name (codes "CONTROL")) (code_in words) n e in
    let h = code_words words n told.1 in
    (ap (λ x. x ∷ words) ((bytes_eq-Decides name (codes "CONTROL")).0 told.0) ∙ ap (λ ws. codes "CONTROL" ∷ ws) h.0, h.1)

-- what is read as a control is its line
pub control_only : (line : List ℕ) (n : ℕ) → handed_on line ≡ Some n → (line ≡ control_text n) × (n < 2 ^ 32)
unfolding handed_on
control_only line n e =
    let at = and_then_some (λ text. control_in (words_in (Some text))) (front_of 10 line) n e in
    let h = control_words (words_in (Some at.0)) n at.2 in
    let text = sym (join_with_byte-slice_split 32 at.0) ∙ ap (join_with_byte 32) h.0 in
    (front_is 10 line at.0 (omega arith) at.1 ∙ ap (λ t. t ++ 10 ∷ []) text, h.1)

one_wide : (n : ℕ) → n < 2 ^ 32 → All (λ n. n < 2 ^ 64) (n ∷ [])
one_wide n small = All-cons (λ n. n < 2 ^ 64) n [] (omega (arith, small)) (All-nil (λ n. n < 2 ^ 64))

-- and a control's line is read as it
pub control_back : (n : ℕ) → n < 2 ^ 32 → handed_on (control_text n) ≡ Some n
unfolding handed_on control_in code_in
control_back n small =
    let text = join_with_byte 32 (codes "CONTROL" ∷ decimal n ∷ []) in
    let words = split_joined (codes "CONTROL") (decimal n ∷ [])
    (All-from_recursion (λ b. (b == 32) ≡ false) (codes "CONTROL") (refl, (refl, (refl, (refl, (refl, (refl, (refl, tt))))))))
    (words_clean (n ∷ []) (one_wide n small)) in
    ap (option_and_then (λ text. control_in (words_in (Some text)))) (front_on 10 text) ∙ ap control_in words
    ∙ rw (number_again n small) refl

-- a control's line is short
pub control_short : (n : ℕ) → n < 2 ^ 32 → length (control_text n) ≤ 4096
control_short n small =
    let joined = joined_short (codes "CONTROL") (n ∷ []) (one_wide n small) in
    omega (arith, joined, length-append (join_with_byte 32 (codes "CONTROL" ∷ decimal n ∷ [])) (10 ∷ []))
