-- A command line that is read unit by unit.
use Rattle.std.specs.Prelude.{ℕ, ◌==◌, ◌&&◌, not, Bool, true, false, List, [], ◌∷◌, ◌++◌, map, if◌then◌else◌}
use Rattle.process_runner.specs.declared.commands.Splitting.{Splitting}
use Rattle.process_runner.specs.Commands.{utf8_of}

-- a word that has begun
abbrev pub begun_word : Bool → List ℕ → List (List ℕ)
begun_word begun word = if begun then word ∷ [] else []

-- the words to come: whether one has begun, its units so far, whether quotes are open, and what is left of the line
unfoldable pub words_after : Bool → List ℕ → Bool → List ℕ → List (List ℕ)
words_after begun word quoted [] = begun_word begun word
words_after begun word quoted (u ∷ line) =
    if u == 34 then words_after true word (not quoted) line
    else if u == 32 && not quoted then begun_word begun word ++ words_after false [] false line
    else words_after true (word ++ u ∷ []) quoted line

-- all words of a line that is read in part
abbrev pub all_words : Splitting → List ℕ → List (List ℕ)
all_words s line = s.done ++ map utf8_of (words_after s.begun s.word.items s.quoted line)
