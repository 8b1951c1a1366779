-- How the verbs are used.
use Rattle.std.specs.Prelude.{ℕ, Bool, true, false, List, [], ◌∷◌, ◌++◌, slice_get, Option, None, Some, option_and_then, bytes_eq, codes}
use Rattle.std.specs.Prelude.{if◌then◌else◌}
use Rattle.std.specs.List.{flat_map}
use Rattle.sc_words.specs.declared.verb.Verb.{Verb}
use Rattle.sc_words.specs.declared.verb.Verb.TheVariants as verb
use Rattle.sc_words.specs.Words.{verb_named}

-- what a creation and a change may state of a service
abbrev pub configuration : List ℕ
configuration =
    codes "[type= own|share] [start= auto|demand|disabled|delayed-auto] [error= ignore|normal|severe|critical] "
    ++ codes "[group= GROUP] [tag= yes|no] [depend= NAME/+GROUP/...] [DisplayName= NAME] [obj= LocalSystem]"

-- a verb and its arguments
abbrev pub usage : Verb → List ℕ
usage verb.Create = codes "create NAME binPath= PATH " ++ configuration
usage verb.Config = codes "config NAME [binPath= PATH] " ++ configuration
usage verb.Description = codes "description NAME TEXT"
usage verb.Failure = codes "failure NAME [reset= SECONDS|INFINITE actions= none|restart|reboot|run/MILLISECONDS/...] [command= TEXT]"
usage verb.Start = codes "start NAME [ARGUMENT ...]"
usage verb.Stop = codes "stop NAME"
usage verb.Pause = codes "pause NAME"
usage verb.Continue = codes "continue NAME"
usage verb.Interrogate = codes "interrogate NAME"
usage verb.Control = codes "control NAME NUMBER"
usage verb.Query = codes "query [NAME]"
usage verb.Delete = codes "delete NAME"
usage verb.QueryConfig = codes "qc NAME"
usage verb.QueryEx = codes "queryex NAME"
usage verb.QueryDescription = codes "qdescription NAME"
usage verb.QueryFailure = codes "qfailure NAME"
usage verb.QueryFailureFlag = codes "qfailureflag NAME"
usage verb.FailureFlag = codes "failureflag NAME 0|1"
usage verb.QueryTriggerInfo = codes "qtriggerinfo NAME"
usage verb.TriggerInfo = codes "triggerinfo NAME start/custom/UUID|stop/custom/UUID ...|delete"
usage verb.EnumDepend = codes "enumdepend NAME"
usage verb.GetDisplayName = codes "getdisplayname NAME"
usage verb.GetKeyName = codes "getkeyname DISPLAYNAME"
usage verb.QueryLock = codes "querylock"
usage verb.ShowSecurity = codes "sdshow NAME"
usage verb.SetSecurity = codes "sdset NAME SDDL"

abbrev pub some_usage : Option Verb → List ℕ
some_usage (Some v) = usage v
some_usage None = codes "VERB [NAME] [ARGUMENT ...]; the verbs: sc --help"

-- the usage of the verb that arguments have in its place
abbrev pub usage_for : List (List ℕ) → List ℕ
usage_for words = some_usage (option_and_then verb_named (slice_get words 1))

abbrev pub verbs : List Verb
verbs =
    verb.Create ∷ verb.Config ∷ verb.Description ∷ verb.Failure ∷ verb.Start ∷ verb.Stop ∷ verb.Pause ∷ verb.Continue
    ∷ verb.Interrogate ∷ verb.Control ∷ verb.Query ∷ verb.Delete ∷ verb.QueryConfig ∷ verb.QueryEx ∷ verb.QueryDescription
    ∷ verb.QueryFailure ∷ verb.QueryFailureFlag ∷ verb.FailureFlag ∷ verb.QueryTriggerInfo ∷ verb.TriggerInfo
    ∷ verb.EnumDepend ∷ verb.GetDisplayName ∷ verb.GetKeyName ∷ verb.QueryLock ∷ verb.ShowSecurity ∷ verb.SetSecurity ∷ []

abbrev pub usage_line : Verb → List ℕ
usage_line v = codes "sc ADDRESS " ++ (usage v ++ codes "\n")

-- a line for each verb
unfoldable pub help : List Verb → List ℕ
help vs = flat_map usage_line vs

abbrev pub is_help : List ℕ → Bool
is_help word =
    if bytes_eq word (codes "help") then true
    else if bytes_eq word (codes "--help") then true
    else if bytes_eq word (codes "/?") then true
    else false

-- no arguments ask for help, and so does the first one
abbrev pub asks_for_help : List (List ℕ) → Bool
asks_for_help [] = true
asks_for_help (word ∷ words) = is_help word
