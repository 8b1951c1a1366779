-- The words of a line, and the numbers that they stand for.
use Rattle.std.specs.Prelude.{ℕ, zero, suc, ◌^◌, ◌==◌, List, [], Option, None, Some, drop, option_and_then, slice_get}
use Rattle.std.specs.List.{slice_split}
use Rattle.decimal_words.specs.Numbers.{decimal_number, number_below}

-- the words of a text, between which one space stands; none where there is no text
abbrev pub words_in : Option (List ℕ) → List (List ℕ)
words_in None = []
words_in (Some text) = slice_split (λ b. b == 32) text

-- the word at a place, counted from 0
abbrev pub nth_word : List (List ℕ) → ℕ → Option (List ℕ)
nth_word words zero = slice_get words 0
nth_word words (suc place) = nth_word (drop 1 words) place

-- the number below 2^32 of which a word is the decimal form
abbrev pub word_code : Option (List ℕ) → Option ℕ
word_code word = option_and_then (number_below (2 ^ 32)) word

-- the number below 2^64 of which a word is the decimal form
abbrev pub word_number : Option (List ℕ) → Option ℕ
word_number word = option_and_then decimal_number word
