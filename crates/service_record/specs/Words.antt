-- The words of a command line.
use Rattle.std.specs.Prelude.{ℕ, Bool, false, not, ◌&&◌, ◌==◌, List, [], ◌∷◌, length, if◌then◌else◌}

-- the units of a word from here on, up to a space outside of quotes; quotes aren't part of it
unfoldable pub word_from : Bool → List ℕ → List ℕ
word_from quoted [] = []
word_from quoted (u ∷ rest) = if u == 34 then word_from (not quoted) rest
    else if u == 32 && not quoted then []
    else u ∷ word_from quoted rest

-- the first word, after the spaces at the front; empty where there is none
unfoldable pub first_word : List ℕ → List ℕ
first_word [] = []
first_word (u ∷ rest) = if u == 32 then first_word rest else word_from false (u ∷ rest)

abbrev pub has_word : List ℕ → Bool
has_word text = not (length (first_word text) == 0)
