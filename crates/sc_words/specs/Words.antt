-- What the words `ADDRESS VERB NAME REST` are a command to do.
use Rattle.std.specs.Prelude.{ℕ, ◌+◌, ◌==◌, Bool, true, false, List, [], length, drop, Option, None, Some, is_some, is_none, Result}
use Rattle.std.specs.Prelude.{Ok, Err, bytes_eq, codes, if◌then◌else◌}
use Rattle.scm_model.specs.declared.codes.TheConstants.{SERVICE_CONTROL_STOP, SERVICE_CONTROL_PAUSE, SERVICE_CONTROL_CONTINUE}
use Rattle.scm_model.specs.declared.codes.TheConstants.{SERVICE_CONTROL_INTERROGATE}
use Rattle.scm_model.specs.declared.calls.TriggerIn.{TriggerIn}
use Rattle.sc_words.specs.declared.command.Command.{Command}
use Rattle.sc_words.specs.declared.command.Level.TheVariants as level
use Rattle.sc_words.specs.declared.command.Task.{Task}
use Rattle.sc_words.specs.declared.command.Task.TheVariants as task
use Rattle.sc_words.specs.declared.security.NewSecurity.{NewSecurity}
use Rattle.sc_words.specs.declared.settings.Settings.{Settings}
use Rattle.sc_words.specs.declared.verb.Verb.{Verb}
use Rattle.sc_words.specs.declared.verb.Verb.TheVariants as verb
use Rattle.sc_words.specs.Places.{◌>>=◌, each_from, fits, word_at, no_word_at}
use Rattle.sc_words.specs.Security.{security_named}
use Rattle.sc_words.specs.Settings.{no_settings, settings_from}
use Rattle.sc_words.specs.Texts.{word_text}
use Rattle.sc_words.specs.Triggers.{trigger_named}
use Rattle.sc_words.specs.Values.{word_number}

abbrev pub verb_named : List ℕ → Option Verb
verb_named word =
    if bytes_eq word (codes "create") then Some verb.Create
    else if bytes_eq word (codes "config") then Some verb.Config
    else if bytes_eq word (codes "description") then Some verb.Description
    else if bytes_eq word (codes "failure") then Some verb.Failure
    else if bytes_eq word (codes "start") then Some verb.Start
    else if bytes_eq word (codes "stop") then Some verb.Stop
    else if bytes_eq word (codes "pause") then Some verb.Pause
    else if bytes_eq word (codes "continue") then Some verb.Continue
    else if bytes_eq word (codes "interrogate") then Some verb.Interrogate
    else if bytes_eq word (codes "control") then Some verb.Control
    else if bytes_eq word (codes "query") then Some verb.Query
    else if bytes_eq word (codes "delete") then Some verb.Delete
    else if bytes_eq word (codes "qc") then Some verb.QueryConfig
    else if bytes_eq word (codes "queryex") then Some verb.QueryEx
    else if bytes_eq word (codes "qdescription") then Some verb.QueryDescription
    else if bytes_eq word (codes "qfailure") then Some verb.QueryFailure
    else if bytes_eq word (codes "qfailureflag") then Some verb.QueryFailureFlag
    else if bytes_eq word (codes "failureflag") then Some verb.FailureFlag
    else if bytes_eq word (codes "qtriggerinfo") then Some verb.QueryTriggerInfo
    else if bytes_eq word (codes "triggerinfo") then Some verb.TriggerInfo
    else if bytes_eq word (codes "enumdepend") then Some verb.EnumDepend
    else if bytes_eq word (codes "getdisplayname") then Some verb.GetDisplayName
    else if bytes_eq word (codes "getkeyname") then Some verb.GetKeyName
    else if bytes_eq word (codes "querylock") then Some verb.QueryLock
    else if bytes_eq word (codes "sdshow") then Some verb.ShowSecurity
    else if bytes_eq word (codes "sdset") then Some verb.SetSecurity
    else None

-- REST begins at this place
abbrev pub rest_place : ℕ
rest_place = 3

-- the keys of REST
unfoldable pub settings_in : Verb → List (List ℕ) → Result Settings ℕ
settings_in v words = settings_from v rest_place no_settings (drop rest_place words)

-- settings that are whole, or a word is missing
abbrev pub whole : (Settings → Bool) → List (List ℕ) → Settings → Result Settings ℕ
whole test words s = if test s then Ok s else Err (length words)

-- a creation has a path
abbrev pub has_path : Settings → Bool
has_path s = is_some s.path

-- a reset and actions come together
abbrev pub has_both : Settings → Bool
has_both s = if is_some s.reset then is_some s.actions else is_none s.actions

unfoldable pub creation_in : List (List ℕ) → Result Settings ℕ
creation_in words = settings_in verb.Create words >>= whole has_path words

unfoldable pub failure_in : List (List ℕ) → Result Settings ℕ
failure_in words = settings_in verb.Failure words >>= whole has_both words

-- the text that the word at a place is
unfoldable pub text_in_place : ℕ → List (List ℕ) → Result (List ℕ) ℕ
text_in_place place words = word_at place words >>= λ word. fits place (word_text word)

-- the one text of REST
unfoldable pub one_text : List (List ℕ) → Result (List ℕ) ℕ
one_text words = do
  text ← text_in_place rest_place words
  none ← no_word_at (rest_place + 1) words
  Ok text

-- the one number of REST
unfoldable pub number_in : List (List ℕ) → Result ℕ ℕ
number_in words = do
  word ← word_at rest_place words
  number ← fits rest_place (word_number word)
  none ← no_word_at (rest_place + 1) words
  Ok number

-- 0 or 1
abbrev pub bit_named : List ℕ → Option Bool
bit_named word =
    if bytes_eq word (codes "0") then Some false
    else if bytes_eq word (codes "1") then Some true
    else None

-- the one bit of REST
unfoldable pub bit_in : List (List ℕ) → Result Bool ℕ
bit_in words = do
  word ← word_at rest_place words
  bit ← fits rest_place (bit_named word)
  none ← no_word_at (rest_place + 1) words
  Ok bit

-- the words from a place on as texts
abbrev pub texts_from : ℕ → List (List ℕ) → Result (List (List ℕ)) ℕ
texts_from place words = each_from word_text place words

-- no triggers, and no word after the one that says so
abbrev pub no_more : List (List ℕ) → Result (List TriggerIn) ℕ
no_more words = no_word_at (rest_place + 1) words >>= λ none. Ok []

-- the triggers of REST: one or more, or `delete`
unfoldable pub triggers_in : List (List ℕ) → Result (List TriggerIn) ℕ
triggers_in words = do
  word ← word_at rest_place words
  if bytes_eq word (codes "delete") then no_more words else each_from trigger_named rest_place (drop rest_place words)

-- the one descriptor of REST
unfoldable pub security_in : List (List ℕ) → Result NewSecurity ℕ
security_in words = do
  word ← word_at rest_place words
  new ← fits rest_place (security_named word)
  none ← no_word_at (rest_place + 1) words
  Ok new

-- a task that goes by no further word
abbrev pub without_rest : Task → List (List ℕ) → Result Task ℕ
without_rest t words = no_word_at rest_place words >>= λ none. Ok t

abbrev pub task_of : Verb → List (List ℕ) → Result Task ℕ
task_of verb.Create words = creation_in words >>= λ s. Ok (task.Create s)
task_of verb.Config words = settings_in verb.Config words >>= λ s. Ok (task.Config s)
task_of verb.Description words = one_text words >>= λ text. Ok (task.Description text)
task_of verb.Failure words = failure_in words >>= λ s. Ok (task.Failure s)
task_of verb.Start words = texts_from rest_place (drop rest_place words) >>= λ texts. Ok (task.Start texts)
task_of verb.Stop words = without_rest (task.Control SERVICE_CONTROL_STOP) words
task_of verb.Pause words = without_rest (task.Control SERVICE_CONTROL_PAUSE) words
task_of verb.Continue words = without_rest (task.Control SERVICE_CONTROL_CONTINUE) words
task_of verb.Interrogate words = without_rest (task.Control SERVICE_CONTROL_INTERROGATE) words
task_of verb.Control words = number_in words >>= λ number. Ok (task.Control number)
task_of verb.Query words = without_rest task.Query words
task_of verb.Delete words = without_rest task.Delete words
task_of verb.QueryConfig words = without_rest task.QueryConfig words
task_of verb.QueryEx words = without_rest task.QueryEx words
task_of verb.QueryDescription words = without_rest (task.QueryLevel level.Description) words
task_of verb.QueryFailure words = without_rest (task.QueryLevel level.Failure) words
task_of verb.QueryFailureFlag words = without_rest (task.QueryLevel level.FailureFlag) words
task_of verb.FailureFlag words = bit_in words >>= λ on. Ok (task.FailureFlag on)
task_of verb.QueryTriggerInfo words = without_rest (task.QueryLevel level.Triggers) words
task_of verb.TriggerInfo words = triggers_in words >>= λ triggers. Ok (task.Triggers triggers)
task_of verb.EnumDepend words = without_rest task.EnumDepend words
task_of verb.GetDisplayName words = without_rest task.DisplayName words
task_of verb.GetKeyName words = without_rest task.KeyName words
task_of verb.QueryLock words = Err 2
task_of verb.ShowSecurity words = without_rest task.QuerySecurity words
task_of verb.SetSecurity words = security_in words >>= λ new. Ok (task.SetSecurity new)

-- what a verb does that stands alone
abbrev pub lone_task : Verb → Option Task
lone_task verb.Query = Some task.QueryAll
lone_task verb.QueryLock = Some task.QueryLock
lone_task _ = None

-- `ADDRESS VERB`, of a verb that may stand alone
abbrev pub lone_command : (address : List ℕ) → Option Task → List (List ℕ) → Result Command ℕ
lone_command address None words = Err (length words)
lone_command address (Some t) words = Ok (record { address = address; name = []; task = t })

-- `ADDRESS VERB NAME REST`
unfoldable pub named_command : (address : List ℕ) → Verb → List (List ℕ) → Result Command ℕ
named_command address v words = do
  name ← text_in_place 2 words
  t ← task_of v words
  Ok (record { address = address; name = name; task = t })

-- the command that words are, or the place of the first word that doesn't fit; where one is missing, that is the count of words
unfoldable pub command_of : List (List ℕ) → Result Command ℕ
command_of words = do
  address ← word_at 0 words
  word ← word_at 1 words
  v ← fits 1 (verb_named word)
  if length words == 2 then lone_command address (lone_task v) words else named_command address v words
