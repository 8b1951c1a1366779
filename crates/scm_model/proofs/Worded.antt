-- The text of some words, one after another.
use Rattle.std.proofs.Common.{ℕ, ◌≡◌, ◌<◌, ◌+◌, ◌*◌, suc, zero, List, [], ◌∷◌, length, take, get_or, ap, arith}
use Rattle.scm_model.specs.Texts.{text_of_words}

-- one word more
pub texts_more : (words : List (List ℕ)) (i : ℕ) (word : List ℕ) → i < length words → word ≡ get_or words i word
    → text_of_words (take (suc i) words) ≡ text_of_words (take i words) + (2 * length word + 8)
texts_more [] i word lt is = absurd (omega (arith, lt))
texts_more (w ∷ ws) zero word lt is = let same = ap (λ (x : List ℕ). length x) is in omega (arith, same)
texts_more (w ∷ ws) (suc i) word lt is = let rest = texts_more ws i word (omega (arith, lt)) is in omega (arith, rest)
