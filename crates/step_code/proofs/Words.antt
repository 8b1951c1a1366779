-- The words of a start, one after another.
use Rattle.std.proofs.Common.{ℕ, ◌≡◌, ◌<◌, ◌≤◌, ◌+◌, ◌*◌, ◌^◌, List, [], ◌∷◌, length, take, get_or, sum_by, ap, arith}
use Rattle.std.proofs.lemmas.List.Sums.{sum_by-cons, sum_by_more_le}
use Rattle.scm_model.specs.Texts.{text_of_words}
use Rattle.step_code.specs.Sizes.{text_size}

pub each_within : (words : List (List ℕ)) → sum_by text_size words ≤ text_of_words words
each_within [] = omega arith
each_within (w ∷ ws) = omega (arith, sum_by-cons text_size w ws, each_within ws)

-- the words so far, and one more, are within the text of all
pub size_at : (words : List (List ℕ)) (i : ℕ) (word : List ℕ) → i < length words → word ≡ get_or words i word
    → sum_by text_size (take i words) + text_size word ≤ text_of_words words
size_at words i word lt is =
    let more = sum_by_more_le text_size words i word lt in
    let same = ap text_size is in
    omega (arith, more, same, each_within words)

few_words : (words : List (List ℕ)) → 8 * length words ≤ text_of_words words
few_words [] = omega arith
few_words (w ∷ ws) = omega (arith, few_words ws)

-- words of little text are few
pub short_list : (words : List (List ℕ)) → text_of_words words < 2 ^ 32 → length words < 2 ^ 32
short_list words few = omega (arith, few, few_words words)
