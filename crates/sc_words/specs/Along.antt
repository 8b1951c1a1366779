-- What the parts of a reader promise each other.
use Rattle.std.specs.Prelude.{ℕ, ◌≡◌, ◌+◌, List, [], ◌∷◌, ◌++◌, drop, Option, None, Some, option_map, Result, Ok, Err}
use Rattle.sc_words.specs.declared.fault.WordsFault.{WordsFault}
use Rattle.sc_words.specs.declared.fault.WordsFault.TheVariants.{BadWord, OutOfMemory}
use Rattle.sc_words.specs.declared.settings.Settings.{Settings}
use Rattle.sc_words.specs.declared.verb.Verb.{Verb}
use Rattle.sc_words.specs.Settings.{settings_from}

-- what was read, and then what one word more stands for, if it does
abbrev pub with_next : {A : Type 0} → List A → Option A → Option (List A)
with_next xs x = option_map (λ y. xs ++ y ∷ []) x

-- a value was put, or the word at this place stands for none
abbrev pub IsPut : {A : Type 0} → (place : ℕ) → Option A → A → Result (Unit {0}) WordsFault → Type 0
IsPut place told new (Ok done) = told ≡ Some new
IsPut place told new (Err (BadWord k)) = (told ≡ None) × (k ≡ place)
IsPut place told new (Err OutOfMemory) = Unit {0}

-- a key and its value were read, and what is left is read from two places on; or a word doesn't fit
abbrev pub IsPairRead : Verb → (place : ℕ) → List (List ℕ) → Settings → Settings → Result (Unit {0}) WordsFault → Type 0
IsPairRead v place words old new (Ok done) = settings_from v place old (drop place words) ≡ settings_from v (place + 2) new
    (drop (place + 2) words)
IsPairRead v place words old new (Err (BadWord k)) = settings_from v place old (drop place words) ≡ Err k
IsPairRead v place words old new (Err OutOfMemory) = Unit {0}
