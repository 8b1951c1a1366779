-- One key and its value.
use Rattle.std.proofs.Common.{◌≡◌, ℕ, ◌+◌, ◌≤◌, List, [], ◌∷◌, length, drop, refl, ap, sym, ◌∙◌}
use Rattle.std.specs.Prelude.{Option, None, Some, Result, Ok, Err}
use Rattle.std.proofs.Math.ListN.{drop_of_length-le}
use Rattle.sc_words.specs.declared.fault.WordsFault.{WordsFault}
use Rattle.sc_words.specs.declared.fault.WordsFault.TheVariants.{BadWord, OutOfMemory}
use Rattle.sc_words.specs.declared.settings.Key.{Key}
use Rattle.sc_words.specs.declared.settings.Settings.{Settings}
use Rattle.sc_words.specs.declared.verb.Verb.{Verb}
use Rattle.sc_words.specs.Along.{IsPut, IsPairRead}
use Rattle.sc_words.specs.Places.{◌>>=◌, fits}
use Rattle.sc_words.specs.Settings.{key_at, with_value, settings_from}

-- what a word and a value behind it come to
abbrev after_value : Verb → ℕ → List (List ℕ) → Option Settings → Result Settings ℕ
after_value v place words s = fits (place + 1) s >>= λ more. settings_from v (place + 2) more words

abbrev after_key : Verb → ℕ → Settings → List ℕ → List (List ℕ) → Option Key → Result Settings ℕ
after_key v place s value words k = fits place k >>= λ key. after_value v place words (with_value key value s)

-- no key
pub no_key : (v : Verb) (place : ℕ) (s : Settings) (word : List ℕ) (words : List (List ℕ)) → key_at v s word ≡ None
    → settings_from v place s (word ∷ words) ≡ Err place
unfolding settings_from
no_key v place s word [] e = rw e refl
no_key v place s word (value ∷ words) e = ap (after_key v place s value words) e

-- a key without a value
pub no_value : (v : Verb) (place : ℕ) (s : Settings) (word : List ℕ) (k : Key) → key_at v s word ≡ Some k
    → settings_from v place s (word ∷ []) ≡ Err (place + 1)
unfolding settings_from
no_value v place s word k e = rw e refl

with_pair : (v : Verb) (place : ℕ) (s : Settings) (word value : List ℕ) (words : List (List ℕ)) (k : Key) → key_at v s word ≡ Some k
    → settings_from v place s (word ∷ value ∷ words) ≡ after_value v place words (with_value k value s)
unfolding settings_from
with_pair v place s word value words k e = ap (after_key v place s value words) e

-- a key with what its value came to
pub pair_read : (v : Verb) (place : ℕ) (words : List (List ℕ)) (old new : Settings) (word value : List ℕ) (k : Key)
    (result : Result (Unit {0}) WordsFault)
    → drop place words ≡ word ∷ value ∷ drop (place + 2) words → key_at v old word ≡ Some k
    → IsPut (place + 1) (with_value k value old) new result → IsPairRead v place words old new result
pair_read v place words old new word value k (Ok x) cut e put =
    ap (settings_from v place old) cut ∙ with_pair v place old word value (drop (place + 2) words) k e
    ∙ ap (after_value v place (drop (place + 2) words)) put
pair_read v place words old new word value k (Err (BadWord p)) cut e put =
    ap (settings_from v place old) cut ∙ with_pair v place old word value (drop (place + 2) words) k e
    ∙ ap (after_value v place (drop (place + 2) words)) put.0
    ∙ ap Err (sym put.1)
pair_read v place words old new word value k (Err OutOfMemory) cut e put = tt

-- no key is left
pub pairs_end : (v : Verb) (place : ℕ) (s : Settings) (words : List (List ℕ)) → length words ≤ place
    → settings_from v place s (drop place words) ≡ Ok s
unfolding settings_from
pairs_end v place s words h = ap (settings_from v place s) (drop_of_length-le words h)
