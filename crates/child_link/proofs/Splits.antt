-- Texts and their words.
use Rattle.std.proofs.Common.{arith, ℕ, zero, suc, ◌≡◌, ◌+◌, ◌-◌, ◌==◌, true, false, List, [], ◌∷◌, length, take, drop, Option, None, Some}
use Rattle.std.proofs.Common.{refl, sym, ap, ◌∙◌}
use Rattle.std.specs.Prelude.{slice_get}
use Rattle.std.specs.List.{All, slice_split, onto_first, join_with_byte}
use Rattle.std.proofs.lemmas.List.{take_rest}
use Rattle.std.proofs.lemmas.List.Elements.{All-head, All-tail}
use Rattle.std.proofs.lemmas.List.Splits.{slice_split-cons_yes, slice_split-cons_no, slice_split_none, slice_split_at}

-- no space is among these bytes
abbrev pub IsOneWord : List ℕ → Type 0
IsOneWord bytes = All (λ b. (b == 32) ≡ false) bytes

pub same_some : {A : Type 0} (x y : A) → Some x ≡ Some y → x ≡ y
same_some x y e = cc

pub none_some : {A : Type 0} (o : Option A) (x : A) → o ≡ None → o ≡ Some x → ⊥
none_some o x e f = cc

pub none_of : {A : Type 0} (o : Option A) → ((x : A) → o ≡ Some x → ⊥) → o ≡ None
none_of None other = refl
none_of (Some x) other = absurd (other x refl)

is_space : (b : ℕ) → b ≡ 32 → (b == 32) ≡ true
is_space b e = ap (λ c. c == 32) e

-- the first word ends at the first space
pub split_word : (text : List ℕ) (place : ℕ) → slice_get text place ≡ Some 32 → IsOneWord (take place text)
    → slice_split (λ b. b == 32) text ≡ take place text ∷ slice_split (λ b. b == 32) (drop (suc place) text)
split_word [] place at clean = absurd (none_some (slice_get [] place) 32 refl at)
split_word (b ∷ text) zero at clean = slice_split-cons_yes (λ b. b == 32) b text (is_space b (same_some b 32 at))
split_word (b ∷ text) (suc place) at clean =
    slice_split-cons_no (λ b. b == 32) b text (All-head (λ b. (b == 32) ≡ false) b (take place text) clean)
    ∙ ap (onto_first b) (split_word text place at (All-tail (λ b. (b == 32) ≡ false) b (take place text) clean))

-- the same, as the part of the text behind the space
pub split_part : (text : List ℕ) (place : ℕ) → slice_get text place ≡ Some 32 → IsOneWord (take place text)
    → slice_split (λ b. b == 32) text ≡ take place text ∷ slice_split (λ b. b == 32)
    (take (length text - (place + 1)) (drop (place + 1) text))
split_part text place at clean =
    let next : suc place ≡ place + 1 = omega arith in
    split_word text place at clean
    ∙ ap (λ rest. take place text ∷ slice_split (λ b. b == 32) rest) (ap (λ n. drop n text) next ∙ sym (take_rest text (place + 1)))

-- words that are joined by spaces are found again
pub split_joined : (word : List ℕ) (words : List (List ℕ)) → IsOneWord word → All IsOneWord words
    → slice_split (λ b. b == 32) (join_with_byte 32 (word ∷ words)) ≡ word ∷ words
split_joined word [] clean all = slice_split_none (λ b. b == 32) word clean
split_joined word (next ∷ words) clean all =
    slice_split_at (λ b. b == 32) word 32 (join_with_byte 32 (next ∷ words)) clean refl
    ∙ ap (λ rest. word ∷ rest) (split_joined next words (All-head IsOneWord next words all) (All-tail IsOneWord next words all))
