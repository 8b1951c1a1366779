-- Keys and their values, as they stand in the words of a command.
use Rattle.std.specs.Prelude.{ℕ, ◌+◌, Bool, true, false, not, ◌&&◌, List, [], ◌∷◌, Option, None, Some, is_some, option_map, Result, Ok, Err}
use Rattle.std.specs.Prelude.{bytes_eq, codes, if◌then◌else◌}
use Rattle.sc_words.specs.declared.settings.Key.{Key}
use Rattle.sc_words.specs.declared.settings.Key.TheVariants as key
use Rattle.sc_words.specs.declared.settings.Settings.{Settings}
use Rattle.sc_words.specs.declared.verb.Verb.{Verb}
use Rattle.sc_words.specs.declared.verb.Verb.TheVariants as verb
use Rattle.sc_words.specs.Places.{◌>>=◌, fits}
use Rattle.sc_words.specs.Texts.{word_text}
use Rattle.sc_words.specs.Values.{kind_named, start_named, error_named, flag_named, names_at, seconds_at, actions_named}

abbrev pub key_named : List ℕ → Option Key
key_named word =
    if bytes_eq word (codes "binPath=") then Some key.BinPath
    else if bytes_eq word (codes "type=") then Some key.Type
    else if bytes_eq word (codes "start=") then Some key.Start
    else if bytes_eq word (codes "error=") then Some key.Error
    else if bytes_eq word (codes "group=") then Some key.Group
    else if bytes_eq word (codes "tag=") then Some key.Tag
    else if bytes_eq word (codes "depend=") then Some key.Depend
    else if bytes_eq word (codes "DisplayName=") then Some key.DisplayName
    else if bytes_eq word (codes "obj=") then Some key.Obj
    else if bytes_eq word (codes "reset=") then Some key.Reset
    else if bytes_eq word (codes "actions=") then Some key.Actions
    else if bytes_eq word (codes "command=") then Some key.Command
    else None

-- whether a key is one of failure actions
abbrev pub is_of_failure : Key → Bool
is_of_failure key.Reset = true
is_of_failure key.Actions = true
is_of_failure key.Command = true
is_of_failure _ = false

-- which keys a verb takes
abbrev pub takes_key : Verb → Key → Bool
takes_key verb.Create k = not (is_of_failure k)
takes_key verb.Config k = not (is_of_failure k)
takes_key verb.Failure k = is_of_failure k
takes_key _ k = false

-- no key stood yet
abbrev pub no_settings : Settings
no_settings = record {
  path = None;
  kind = None;
  start = None;
  error = None;
  group = None;
  tag = None;
  needs = None;
  display = None;
  account = None;
  reset = None;
  actions = None;
  command = None;
}

-- whether a key stood before
abbrev pub is_given : Key → Settings → Bool
is_given key.BinPath s = is_some s.path
is_given key.Type s = is_some s.kind
is_given key.Start s = is_some s.start
is_given key.Error s = is_some s.error
is_given key.Group s = is_some s.group
is_given key.Tag s = is_some s.tag
is_given key.Depend s = is_some s.needs
is_given key.DisplayName s = is_some s.display
is_given key.Obj s = is_some s.account
is_given key.Reset s = is_some s.reset
is_given key.Actions s = is_some s.actions
is_given key.Command s = is_some s.command

-- a key with its value, where the word is one of its values
abbrev pub with_value : Key → List ℕ → Settings → Option Settings
with_value key.BinPath word s = option_map (λ text. record s { path = Some text }) (word_text word)
with_value key.Type word s = option_map (λ kind. record s { kind = Some kind }) (kind_named word)
with_value key.Start word s = option_map (λ start. record s { start = Some start }) (start_named word)
with_value key.Error word s = option_map (λ error. record s { error = Some error }) (error_named word)
with_value key.Group word s = option_map (λ text. record s { group = Some text }) (word_text word)
with_value key.Tag word s = option_map (λ flag. record s { tag = Some flag }) (flag_named word)
with_value key.Depend word s = option_map (λ names. record s { needs = Some names }) (names_at word)
with_value key.DisplayName word s = option_map (λ text. record s { display = Some text }) (word_text word)
with_value key.Obj word s = option_map (λ text. record s { account = Some text }) (word_text word)
with_value key.Reset word s = option_map (λ seconds. record s { reset = Some seconds }) (seconds_at word)
with_value key.Actions word s = option_map (λ actions. record s { actions = Some actions }) (actions_named word)
with_value key.Command word s = option_map (λ text. record s { command = Some text }) (word_text word)

-- the key that a word is, if the verb takes it and it didn't stand before
abbrev pub if_new : Verb → Settings → Option Key → Option Key
if_new v s None = None
if_new v s (Some k) = if takes_key v k && not (is_given k s) then Some k else None

unfoldable pub key_at : Verb → Settings → List ℕ → Option Key
key_at v s word = if_new v s (key_named word)

-- what the words from a place on give beside what was given before them: keys, each with its value
unfoldable pub settings_from : Verb → ℕ → Settings → List (List ℕ) → Result Settings ℕ
settings_from v place s [] = Ok s
settings_from v place s (word ∷ []) = fits place (key_at v s word) >>= λ k. Err (place + 1)
settings_from v place s (word ∷ value ∷ words) = do
  k ← fits place (key_at v s word)
  more ← fits (place + 1) (with_value k value s)
  settings_from v (place + 2) more words
