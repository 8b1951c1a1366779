-- A report as it is written.
use Rattle.std.proofs.Common.{ℕ, ◌≡◌, List, [], ◌∷◌, ◌++◌, map, ap, append-nil}
use Rattle.std.specs.Prelude.{codes, decimal}
use Rattle.std.specs.List.{join_with_byte}
use Rattle.child_link.specs.Lines.{numbers_text, spaced}

joined : (word : List ℕ) (numbers : List ℕ) → word ++ spaced numbers ≡ join_with_byte 32 (word ∷ map decimal numbers)
joined word [] = append-nil word
joined word (n ∷ numbers) = ap (λ rest. word ++ 32 ∷ rest) (joined (decimal n) numbers)

-- STATUS with the numbers after it is their text
pub joined_spaced : (numbers : List ℕ) → codes "STATUS" ++ spaced numbers ≡ numbers_text numbers
joined_spaced numbers = joined (codes "STATUS") numbers
