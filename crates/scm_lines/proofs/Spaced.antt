-- Words that are joined by spaces, split again, and what stands in decimal and in hexadecimal words.
use Rattle.std.proofs.Common.{ℕ, zero, suc, ◌≡◌, ◌+◌, ◌/◌, ◌%◌, ◌<◌, ◌≤◌, ◌^◌, ◌==◌, ◌&&◌, Bool, true, false, not, cond, List, []}
use Rattle.std.proofs.Common.{◌∷◌, ◌++◌, map, Some, None, refl, sym, ap, ◌∙◌, append_assoc, append-nil, arith}
use Rattle.std.specs.Prelude.{decimal, option_and_then, slice_index, ◌||◌}
use Rattle.std.specs.List.{All, AllByRecursion, list_all, list_any}
use Rattle.std.specs.Result.{result_ok}
use Rattle.std.proofs.lemmas.Bool.{lt-ltb, ne_eqb}
use Rattle.std.proofs.lemmas.Fmt.{decimal_by_steps}
use Rattle.std.proofs.lemmas.Grind.{flat_map-append}
use Rattle.std.proofs.lemmas.List.Elements.{All-nil, All-cons, All-push, All-weaker}
use Rattle.std.proofs.lemmas.List.Folds.{flat_map-map, list_any_none}
use Rattle.std.proofs.lemmas.List.Splits.{slice_split_none, slice_split_at}
use Rattle.hex.specs.Hex.{IsBytes, decode_of, encode_lower, encode_with, lower_digits}
use Rattle.hex.proofs.HexLemmas.{decode_of-encode_lower}
use Rattle.decimal_words.specs.Numbers.{decimal_number, if_below, number_below}
use Rattle.decimal_words.proofs.Numbers.{number_is}
use Rattle.scm_lines.specs.Words.{hex_at, is_upper, line_words}
use Rattle.scm_lines.specs.Entries.{numbered, spaced, spaced_numbers}

-- ## Words

-- no space is among these bytes
abbrev pub IsWord : List ℕ → Type 0
IsWord bytes = All (λ b. (b == 32) ≡ false) bytes

-- words that are joined by spaces are split as they were
pub words_again : (word : List ℕ) (words : List (List ℕ)) → IsWord word → AllByRecursion IsWord words
    → line_words (word ++ spaced words) ≡ word ∷ words
words_again word [] clean others =
    ap line_words (append-nil word) ∙ slice_split_none (λ b. b == 32) word clean
words_again word (next ∷ words) clean others =
    slice_split_at (λ b. b == 32) word 32 (next ++ spaced words) clean refl
    ∙ ap (λ ws. word ∷ ws) (words_again next words others.0 others.1)

-- numbers after spaces are words
numbers_spaced : (numbers : List ℕ) → spaced_numbers numbers ≡ spaced (map decimal numbers)
numbers_spaced numbers = sym (flat_map-map (λ word. 32 ∷ word) decimal numbers)

-- words after a text and some words
pub words_after : (old : List ℕ) (words more : List (List ℕ)) → (old ++ spaced words) ++ spaced more ≡ old ++ spaced (words ++ more)
words_after old words more =
    append_assoc old (spaced words) (spaced more) ∙ ap (λ l. old ++ l) (sym (flat_map-append (λ word. 32 ∷ word) words more))

-- one word after them
pub word_after : (old : List ℕ) (words : List (List ℕ)) (word : List ℕ)
    → (old ++ spaced words) ++ 32 ∷ word ≡ old ++ spaced (words ++ word ∷ [])
word_after old words word =
    ap (λ l. (old ++ spaced words) ++ 32 ∷ l) (sym (append-nil word)) ∙ words_after old words (word ∷ [])

-- numbers after them
pub numbers_after : (old : List ℕ) (words : List (List ℕ)) (numbers : List ℕ)
    → (old ++ spaced words) ++ spaced_numbers numbers ≡ old ++ spaced (words ++ map decimal numbers)
numbers_after old words numbers =
    ap (λ l. (old ++ spaced words) ++ l) (numbers_spaced numbers) ∙ words_after old words (map decimal numbers)

-- a verb and its numbers after a text
pub numbered_after : (old verb numbers : List ℕ) → (old ++ 32 ∷ verb) ++ spaced_numbers numbers ≡ old ++ spaced (numbered verb numbers)
numbered_after old verb numbers =
    append_assoc old (32 ∷ verb) (spaced_numbers numbers) ∙ ap (λ l. old ++ ((32 ∷ verb) ++ l)) (numbers_spaced numbers)

-- ## Digits

-- a byte that is neither a space nor a letter in upper case
abbrev is_plain : ℕ → Bool
is_plain b = not (b == 32) && not (is_upper b)

pub plain_parts : (space upper : Bool) → (not space && not upper) ≡ true → (space ≡ false) × (upper ≡ false)
plain_parts false false e = (refl, refl)
plain_parts false true e = absurd cc
plain_parts true upper e = absurd cc

no_space : (b : ℕ) → is_plain b ≡ true → (b == 32) ≡ false
no_space b e = (plain_parts (b == 32) (is_upper b) e).0

no_upper : (b : ℕ) → is_plain b ≡ true → is_upper b ≡ false
no_upper b e = (plain_parts (b == 32) (is_upper b) e).1

-- a literal word is clean if each of its bytes computes so
pub word_of : (bytes : List ℕ) → list_any (λ b. b == 32) bytes ≡ false → IsWord bytes
word_of [] e = All-nil (λ b. (b == 32) ≡ false)
word_of (b ∷ bytes) e = All-cons (λ b. (b == 32) ≡ false) b bytes (first (b == 32) _ e) (word_of bytes (rest (b == 32) _ e))
  where
    first : (here there : Bool) → (here || there) ≡ false → here ≡ false
    first false there e = refl
    first true there e = absurd cc

    rest : (here there : Bool) → (here || there) ≡ false → there ≡ false
    rest false there e = e
    rest true there e = absurd cc

-- ## Decimal words

digits_high : (n : ℕ) → n < 2 ^ 64 → All (λ b. 48 ≤ b) (decimal n)
digits_high n small = decimal_by_steps (λ n ds. All (λ b. 48 ≤ b) ds)
    (λ n low. All-cons (λ b. 48 ≤ b) (48 + n) [] (omega arith) (All-nil (λ b. 48 ≤ b)))
    (λ n ds high all. All-push (λ b. 48 ≤ b) ds (48 + n % 10) all (omega arith))
    n small

pub decimal_word : (n : ℕ) → n < 2 ^ 64 → IsWord (decimal n)
decimal_word n small =
    All-weaker (λ b. 48 ≤ b) (λ b. (b == 32) ≡ false) (λ b high. ne_eqb b 32 (λ e. omega (arith, high, e))) (decimal n)
    (digits_high n small)

pub number_again : (n : ℕ) → n < 2 ^ 64 → decimal_number (decimal n) ≡ Some n
number_again n small = number_is (decimal n) n small refl

pub below_again : (limit n : ℕ) → n < limit → n < 2 ^ 64 → number_below limit (decimal n) ≡ Some n
unfolding number_below
below_again limit n low small =
    ap (option_and_then (if_below limit)) (number_again n small) ∙ ap (λ b. cond b (Some n) None) (lt-ltb n limit low)

-- ## Hexadecimal words

-- what stands at any place of a list of plain bytes, and 0 past its end
plain_at : (bytes : List ℕ) → list_all is_plain bytes ≡ true → (i : ℕ) → is_plain (slice_index bytes i) ≡ true
plain_at [] e i = refl
plain_at (b ∷ bytes) e zero = both_left (is_plain b) _ e
  where
    both_left : (x y : Bool) → (x && y) ≡ true → x ≡ true
    both_left true y e = refl
    both_left false y e = absurd cc
plain_at (b ∷ bytes) e (suc i) = plain_at bytes (both_right (is_plain b) _ e) i
  where
    both_right : (x y : Bool) → (x && y) ≡ true → y ≡ true
    both_right true y e = e
    both_right false y e = absurd cc

hex_plain : (bytes : List ℕ) → All (λ b. is_plain b ≡ true) (encode_lower bytes)
unfolding encode_with
hex_plain [] = All-nil (λ b. is_plain b ≡ true)
hex_plain (b ∷ bytes) =
    All-cons (λ b. is_plain b ≡ true) (slice_index lower_digits (b / 16)) (slice_index lower_digits (b % 16) ∷ encode_lower bytes)
    (plain_at lower_digits refl (b / 16))
    (All-cons (λ b. is_plain b ≡ true) (slice_index lower_digits (b % 16)) (encode_lower bytes)
    (plain_at lower_digits refl (b % 16)) (hex_plain bytes))

pub hex_word : (bytes : List ℕ) → IsWord (encode_lower bytes)
hex_word bytes =
    All-weaker (λ b. is_plain b ≡ true) (λ b. (b == 32) ≡ false) no_space (encode_lower bytes) (hex_plain bytes)

pub hex_again : (bytes : List ℕ) → IsBytes bytes → hex_at (encode_lower bytes) ≡ Some bytes
unfolding hex_at
hex_again bytes small =
    let lower = list_any_none is_upper (encode_lower bytes)
    (All-weaker (λ b. is_plain b ≡ true) (λ b. is_upper b ≡ false) no_upper (encode_lower bytes) (hex_plain bytes)) in
    ap (λ b. cond b None (result_ok (decode_of (encode_lower bytes)))) lower
    ∙ ap (λ r. result_ok r) (decode_of-encode_lower bytes small)
