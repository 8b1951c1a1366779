-- What is read of words, or the place of the first word that doesn't fit.
use Rattle.std.specs.Prelude.{ℕ, ◌≡◌, ◌+◌, List, [], ◌∷◌, length, Option, None, Some, Result, Ok, Err, slice_get, nat_le, if◌then◌else◌}
use Rattle.std.specs.Borrow.{Bor}
use Rattle.sc_words.specs.declared.fault.WordsFault.{WordsFault}
use Rattle.sc_words.specs.declared.fault.WordsFault.TheVariants.{BadWord, OutOfMemory}

-- the second step, if the first gave a value
infixl 10 ◌>>=◌
abbrev pub ◌>>=◌ : {A B : Type 0} → Result A ℕ → (A → Result B ℕ) → Result B ℕ
Ok x >>= f = f x
Err place >>= f = Err place

-- a value that the word at a place stands for, if it does
abbrev pub fits : {A : Type 0} → (place : ℕ) → Option A → Result A ℕ
fits place None = Err place
fits place (Some x) = Ok x

-- the word at a place, or the count of words where none is there
unfoldable pub word_at : ℕ → List (List ℕ) → Result (List ℕ) ℕ
word_at place words = fits (length words) (slice_get words place)

-- no word stands at a place or after it
unfoldable pub no_word_at : ℕ → List (List ℕ) → Result (Unit {0}) ℕ
no_word_at place words = if nat_le (length words) place then Ok tt else Err place

-- what each of the words from a place on stands for
unfoldable pub each_from : {A : Type 0} → (List ℕ → Option A) → ℕ → List (List ℕ) → Result (List A) ℕ
each_from f place [] = Ok []
each_from f place (word ∷ words) = do
  x ← fits place (f word)
  xs ← each_from f (place + 1) words
  Ok (x ∷ xs)

-- it answers what is read; out of memory comes at any words
abbrev pub AnswersAs : {A : Type 0} → Result A WordsFault → Result A ℕ → Type 0
AnswersAs (Ok x) told = told ≡ Ok x
AnswersAs (Err (BadWord place)) told = told ≡ Err place
AnswersAs (Err OutOfMemory) told = Unit {0}

-- a word without where it lies in memory
abbrev pub seen_word : Result (Bor (List ℕ)) WordsFault → Result (List ℕ) WordsFault
seen_word (Ok word) = Ok word.now
seen_word (Err fault) = Err fault
