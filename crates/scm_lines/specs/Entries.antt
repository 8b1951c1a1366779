-- The line of an entry of a history, as it is written.
use Rattle.std.specs.Prelude.{ℕ, ◌≡◌, ◌<◌, ◌^◌, ◌==◌, Bool, true, false, IsTrue, List, [], ◌∷◌, ◌++◌, length, map, codes, decimal}
use Rattle.std.specs.Prelude.{if◌then◌else◌}
use Rattle.std.specs.List.{AllByRecursion, flat_map}
use Rattle.hex.specs.Hex.{IsBytes, encode_lower}
use Rattle.scm_model.specs.declared.flat.Principal.{Principal}
use Rattle.scm_model.specs.declared.flat.Principal.TheVariants.{Admin, User}
use Rattle.scm_model.specs.declared.steps.Kept.{Kept}
use Rattle.scm_model.specs.declared.steps.Kept.TheVariants as appended
use Rattle.scm_model.specs.declared.steps.Step.{Step}
use Rattle.scm_model.specs.declared.steps.Step.TheVariants.{Joined, Call, EndStart, LaunchTaken, Launched, LaunchFailed, Report, Ended}
use Rattle.scm_model.specs.declared.steps.Step.TheVariants.{ControlTaken, Tick, Raised, Gone, NoMemory}
use Rattle.scm_model.specs.Entries.{Entry, unkept}
use Rattle.scm_model.specs.Ranges.{in_range}
use Rattle.scm_model.specs.Opnums.{opnum}
use Rattle.scm_model.specs.Statuses.{status_numbers}
use Rattle.scm_bodies.specs.Requests.{AreCarried, request_bytes}
use Rattle.scm_lines.specs.declared.line.Line.{Line}

-- ## Words

-- words, each after a space
abbrev pub spaced : List (List ℕ) → List ℕ
spaced words = flat_map (λ word. 32 ∷ word) words

-- numbers in decimal form, each after a space
abbrev pub spaced_numbers : List ℕ → List ℕ
spaced_numbers numbers = flat_map (λ n. 32 ∷ decimal n) numbers

-- a verb, and numbers in decimal form
abbrev pub numbered : List ℕ → List ℕ → List (List ℕ)
numbered verb numbers = verb ∷ map decimal numbers

abbrev pub principal_word : Principal → List ℕ
principal_word Admin = codes "admin"
principal_word User = codes "user"

-- a call whose append failed has a verb of its own
abbrev pub call_verb : Kept → List ℕ
call_verb appended.Failed = codes "failcall"
call_verb other = codes "call"

-- a process, and the service that it reports; service 0 isn't written
abbrev pub reporter : ℕ → ℕ → List ℕ
reporter process service = if service == 0 then process ∷ [] else process ∷ service ∷ []

-- ## Lines

-- a verb and what comes after it; a body is in the one form that is written
abbrev pub step_words : Step → List (List ℕ)
step_words (Joined by) = codes "join" ∷ principal_word by ∷ []
step_words (Call caller asked append) =
    call_verb append ∷ decimal caller ∷ decimal (opnum asked) ∷ encode_lower (request_bytes asked) ∷ []
step_words (EndStart caller plan) = numbered (codes "end") (caller ∷ plan ∷ [])
step_words LaunchTaken = numbered (codes "take") []
step_words (Launched process pid) = numbered (codes "launched") (process ∷ pid ∷ [])
step_words (LaunchFailed process code) = numbered (codes "unlaunched") (process ∷ code ∷ [])
step_words (Report process service status) =
    numbered (codes "report") (reporter process service) ++ map decimal (status_numbers status)
step_words (Ended process) = numbered (codes "ended") (process ∷ [])
step_words (ControlTaken process) = numbered (codes "control") (process ∷ [])
step_words Tick = numbered (codes "tick") []
step_words (Raised caller subtype) = codes "raise" ∷ decimal caller ∷ encode_lower subtype ∷ []
step_words (Gone caller) = numbered (codes "gone") (caller ∷ [])
step_words (NoMemory caller) = numbered (codes "nomem") (caller ∷ [])

-- the line of an entry, without the line feed that ends it
abbrev pub line_of : Entry → List ℕ
line_of entry = decimal entry.0 ++ spaced (step_words entry.1)

-- ## What is read of it

-- a step whose numbers have their bits, and whose request is one that a body asks
abbrev pub HasWords : Step → Type 0
HasWords (Joined by) = Unit {0}
HasWords (Call caller asked append) =
    (caller < 2 ^ 64) × IsTrue (in_range asked) × AreCarried asked × IsBytes (request_bytes asked)
HasWords (EndStart caller plan) = (caller < 2 ^ 64) × (plan < 2 ^ 64)
HasWords LaunchTaken = Unit {0}
HasWords (Launched process pid) = (process < 2 ^ 64) × (pid < 2 ^ 32)
HasWords (LaunchFailed process code) = (process < 2 ^ 64) × (code < 2 ^ 32)
HasWords (Report process service status) =
    (process < 2 ^ 64) × (service < 2 ^ 64)
    × AllByRecursion (λ n. n < 2 ^ 32) (status_numbers status)
HasWords (Ended process) = process < 2 ^ 64
HasWords (ControlTaken process) = process < 2 ^ 64
HasWords Tick = Unit {0}
HasWords (Raised caller subtype) = (caller < 2 ^ 64) × (length subtype ≡ 16) × IsBytes subtype
HasWords (Gone caller) = caller < 2 ^ 64
HasWords (NoMemory caller) = caller < 2 ^ 64

-- an entry whose line says it
abbrev pub HasLine : Entry → Type 0
HasLine entry = (entry.0 < 2 ^ 64) × HasWords entry.1

-- whether an append of the step's change failed
abbrev pub is_failed : Step → Bool
is_failed (Call caller asked appended.Failed) = true
is_failed step = false

-- what the line of an entry says
abbrev pub said : Entry → Line
said entry = record { moment = entry.0; step = unkept entry.1; fails = is_failed entry.1 }
