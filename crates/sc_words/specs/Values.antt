-- What the values of keys stand for.
use Rattle.std.specs.Prelude.{ℕ, ◌^◌, ◌==◌, Bool, true, false, List, [], ◌∷◌, length, Option, None, Some, option_and_then, option_map}
use Rattle.std.specs.Prelude.{bytes_eq, codes, if◌then◌else◌}
use Rattle.std.specs.List.{slice_split}
use Rattle.decimal_words.specs.Numbers.{number_below}
use Rattle.scm_model.specs.declared.codes.TheConstants.{SERVICE_WIN32_OWN_PROCESS, SERVICE_WIN32_SHARE_PROCESS, SERVICE_ERROR_IGNORE}
use Rattle.scm_model.specs.declared.codes.TheConstants.{SERVICE_ERROR_NORMAL, SERVICE_ERROR_SEVERE, SERVICE_ERROR_CRITICAL}
use Rattle.scm_model.specs.declared.flat.Action.{Action}
use Rattle.sc_words.specs.declared.values.StartType.{StartType}
use Rattle.sc_words.specs.declared.values.StartType.TheVariants.{Auto, Demand, Disabled, DelayedAuto}
use Rattle.sc_words.specs.Texts.{word_text}

abbrev pub kind_named : List ℕ → Option ℕ
kind_named word =
    if bytes_eq word (codes "own") then Some SERVICE_WIN32_OWN_PROCESS
    else if bytes_eq word (codes "share") then Some SERVICE_WIN32_SHARE_PROCESS
    else None

abbrev pub start_named : List ℕ → Option StartType
start_named word =
    if bytes_eq word (codes "auto") then Some Auto
    else if bytes_eq word (codes "demand") then Some Demand
    else if bytes_eq word (codes "disabled") then Some Disabled
    else if bytes_eq word (codes "delayed-auto") then Some DelayedAuto
    else None

abbrev pub error_named : List ℕ → Option ℕ
error_named word =
    if bytes_eq word (codes "ignore") then Some SERVICE_ERROR_IGNORE
    else if bytes_eq word (codes "normal") then Some SERVICE_ERROR_NORMAL
    else if bytes_eq word (codes "severe") then Some SERVICE_ERROR_SEVERE
    else if bytes_eq word (codes "critical") then Some SERVICE_ERROR_CRITICAL
    else None

abbrev pub flag_named : List ℕ → Option Bool
flag_named word =
    if bytes_eq word (codes "yes") then Some true
    else if bytes_eq word (codes "no") then Some false
    else None

-- what stands between the slashes of a word
abbrev pub slash_pieces : List ℕ → List (List ℕ)
slash_pieces word = slice_split (λ b. b == 47) word

abbrev pub with_first : {A : Type 0} → Option A → Option (List A) → Option (List A)
with_first None more = None
with_first (Some x) more = option_map (λ xs. x ∷ xs) more

-- what the words stand for, where each stands for something
unfoldable pub each : {A : Type 0} → (List ℕ → Option A) → List (List ℕ) → Option (List A)
each f [] = Some []
each f (word ∷ words) = with_first (f word) (each f words)

-- a name isn't empty
unfoldable pub name_at : List ℕ → Option (List ℕ)
name_at word = if length word == 0 then None else word_text word

-- names with `/` between them; `/` alone is none
unfoldable pub names_at : List ℕ → Option (List (List ℕ))
names_at word = if bytes_eq word (codes "/") then Some [] else each name_at (slash_pieces word)

-- a number of 32 bits
abbrev pub word_number : List ℕ → Option ℕ
word_number word = number_below (2 ^ 32) word

-- seconds; INFINITE is the greatest number of 32 bits
unfoldable pub seconds_at : List ℕ → Option ℕ
seconds_at word = if bytes_eq word (codes "INFINITE") then Some 0xFFFFFFFF else word_number word

abbrev pub what_named : List ℕ → Option ℕ
what_named word =
    if bytes_eq word (codes "none") then Some 0
    else if bytes_eq word (codes "restart") then Some 1
    else if bytes_eq word (codes "reboot") then Some 2
    else if bytes_eq word (codes "run") then Some 3
    else None

unfoldable pub action_named : List ℕ → List ℕ → Option Action
action_named what delay = option_and_then (λ w. option_map (λ d. record { what = w; delay = d }) (word_number delay)) (what_named what)

-- what is done and its delay, by turns
unfoldable pub actions_of : List (List ℕ) → Option (List Action)
actions_of [] = Some []
actions_of (what ∷ []) = None
actions_of (what ∷ delay ∷ words) = with_first (action_named what delay) (actions_of words)

-- the same with `/` between them
unfoldable pub actions_named : List ℕ → Option (List Action)
actions_named word = actions_of (slash_pieces word)
