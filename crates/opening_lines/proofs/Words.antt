-- Words that are written after the name of a line.
use Rattle.std.proofs.Common.{◌≡◌, ℕ, List, [], ◌∷◌, ◌++◌, map, sym, ap, append-nil}
use Rattle.std.specs.Prelude.{decimal}
use Rattle.std.proofs.lemmas.List.Folds.{flat_map-map}
use Rattle.scm_lines.specs.Entries.{spaced, spaced_numbers}

pub numbers_spaced : (name numbers : List ℕ) → name ++ spaced_numbers numbers ≡ name ++ spaced (map decimal numbers)
numbers_spaced name numbers = ap (λ l. name ++ l) (sym (flat_map-map (λ word. 32 ∷ word) decimal numbers))

pub word_spaced : (name word : List ℕ) → name ++ 32 ∷ word ≡ name ++ spaced (word ∷ [])
word_spaced name word = ap (λ l. name ++ 32 ∷ l) (sym (append-nil word))
