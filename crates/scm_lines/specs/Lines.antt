-- What a line says: at which moment which step is to be made.
use Rattle.std.specs.Prelude.{ℕ, ◌≡◌, ◌^◌, ◌==◌, Bool, true, false, List, [], ◌∷◌, length, Option, None, Some, option_map, bytes_eq, codes}
use Rattle.std.specs.Prelude.{if◌then◌else◌}
use Rattle.std.specs.Result.{result_ok}
use Rattle.scm_model.specs.declared.flat.Principal.TheVariants.{Admin, User}
use Rattle.scm_model.specs.declared.flat.Status.{Status}
use Rattle.scm_model.specs.declared.calls.Request.{Request}
use Rattle.scm_model.specs.declared.steps.Kept.TheVariants as appended
use Rattle.scm_model.specs.declared.steps.Step.{Step}
use Rattle.scm_model.specs.declared.steps.Step.TheVariants.{Joined, Call, EndStart, LaunchTaken, Launched, LaunchFailed, Report, Ended}
use Rattle.scm_model.specs.declared.steps.Step.TheVariants.{ControlTaken, Tick, Raised, Gone, NoMemory}
use Rattle.decimal_words.specs.Numbers.{decimal_number, number_below}
use Rattle.scm_bodies.specs.Calls.{call_at as served_at}
use Rattle.scm_bodies.specs.Requests.{request_at}
use Rattle.scm_calls.specs.Raises.{raise_at}
use Rattle.scm_lines.specs.declared.line.Line.{Line}
use Rattle.scm_lines.specs.declared.verb.Verb.{Verb}
use Rattle.scm_lines.specs.declared.verb.Verb.TheVariants as verb
use Rattle.scm_lines.specs.Verbs.{fails_by, verb_at}
use Rattle.scm_lines.specs.Words.{◌>>=◌, line_words, hex_at}

-- ## What is read into its place

-- what was looked for stands there now, if it was found
abbrev pub LeavesFound : {A : Type 0} → (found : Bool) → (now : A) → Option A → Type 0
LeavesFound true now told = told ≡ Some now
LeavesFound false now told = told ≡ None

-- ## What stands after a verb

-- who joins
unfoldable pub joined_at : List ℕ → Option Step
joined_at name =
    if bytes_eq name (codes "admin") then Some (Joined Admin) else
    if bytes_eq name (codes "user") then Some (Joined User) else None

-- what a call asks: of the calls whose bodies can be read, what the body says
unfoldable pub request_in : ℕ → List ℕ → Option Request
request_in opnum body = do
  asked ← served_at opnum
  result_ok (request_at asked body)

-- a caller, an opnum of 16 bits and a body; it isn't said what becomes of the call's change
unfoldable pub call_in_words : List ℕ → List ℕ → List ℕ → Option Step
call_in_words who opnum body = do
  caller ← decimal_number who
  number ← number_below (2 ^ 16) opnum
  bytes ← hex_at body
  asked ← request_in number bytes
  Some (Call caller asked appended.NotAsked)

-- a caller and its plan
unfoldable pub end_at : List ℕ → List ℕ → Option Step
end_at who plan = do
  caller ← decimal_number who
  number ← decimal_number plan
  Some (EndStart caller number)

-- a process, and the system's number of it in 32 bits
unfoldable pub launched_at : List ℕ → List ℕ → Option Step
launched_at process pid = do
  number ← decimal_number process
  given ← number_below (2 ^ 32) pid
  Some (Launched number given)

-- a process, and a code of 32 bits
unfoldable pub unlaunched_at : List ℕ → List ℕ → Option Step
unlaunched_at process code = do
  number ← decimal_number process
  told ← number_below (2 ^ 32) code
  Some (LaunchFailed number told)

-- a status, by its seven numbers of 32 bits
unfoldable pub status_at : List ℕ → List ℕ → List ℕ → List ℕ → List ℕ → List ℕ → List ℕ → Option Status
status_at kind state accepted win32 specific checkpoint hint = do
  a ← number_below (2 ^ 32) kind
  b ← number_below (2 ^ 32) state
  c ← number_below (2 ^ 32) accepted
  d ← number_below (2 ^ 32) win32
  e ← number_below (2 ^ 32) specific
  f ← number_below (2 ^ 32) checkpoint
  g ← number_below (2 ^ 32) hint
  Some (record { kind = a; state = b; accepted = c; win32 = d; specific = e; checkpoint = f; hint = g })

-- the status whose numbers these words are, and no words more
abbrev pub status_in_words : List (List ℕ) → Option Status
status_in_words (kind ∷ state ∷ accepted ∷ win32 ∷ specific ∷ checkpoint ∷ hint ∷ []) =
    status_at kind state accepted win32 specific checkpoint hint
status_in_words words = None

-- a process, the service that it names, and the status that it reports
unfoldable pub report_at : List ℕ → Option ℕ → Option Status → Option Step
report_at process service status = do
  number ← decimal_number process
  named ← service
  told ← status
  Some (Report number named told)

-- a process, the number of a service and the seven numbers of its status
abbrev pub naming_in_words : List ℕ → List (List ℕ) → Option Step
naming_in_words process [] = None
naming_in_words process (service ∷ words) = report_at process (decimal_number service) (status_in_words words)

-- a process and the seven numbers of a status, before which the number of a service may stand; without it, it is 0
abbrev pub report_in_words : List (List ℕ) → Option Step
report_in_words [] = None
report_in_words (process ∷ words) =
    if length words == 8 then naming_in_words process words else report_at process (Some 0) (status_in_words words)

-- a caller, and the subtype of triggers that it raises
unfoldable pub raise_in_words : List ℕ → List ℕ → Option Step
raise_in_words who subtype = do
  caller ← decimal_number who
  bytes ← hex_at subtype
  raised ← result_ok (raise_at bytes)
  Some (Raised caller raised)

-- the step of a verb and the words after it, except for reports and steps that have bytes in hexadecimal
abbrev pub plain_at : Verb → List (List ℕ) → Option Step
plain_at verb.Join (name ∷ []) = joined_at name
plain_at verb.End (who ∷ plan ∷ []) = end_at who plan
plain_at verb.Take [] = Some LaunchTaken
plain_at verb.Launched (process ∷ pid ∷ []) = launched_at process pid
plain_at verb.Unlaunched (process ∷ code ∷ []) = unlaunched_at process code
plain_at verb.Ended (process ∷ []) = option_map Ended (decimal_number process)
plain_at verb.Control (process ∷ []) = option_map ControlTaken (decimal_number process)
plain_at verb.Tick [] = Some Tick
plain_at verb.Gone (who ∷ []) = option_map Gone (decimal_number who)
plain_at verb.NoMemory (who ∷ []) = option_map NoMemory (decimal_number who)
plain_at other words = None

-- the step of a verb and the words after it: each verb has so many and no others
abbrev pub step_at : Verb → List (List ℕ) → Option Step
step_at verb.Call (who ∷ opnum ∷ body ∷ []) = call_in_words who opnum body
step_at verb.FailCall (who ∷ opnum ∷ body ∷ []) = call_in_words who opnum body
step_at verb.Raise (who ∷ subtype ∷ []) = raise_in_words who subtype
step_at verb.Report words = report_in_words words
step_at other words = plain_at other words

-- ## Whole lines

-- a moment, a verb and the words after it
unfoldable pub line_in_words : List ℕ → List ℕ → List (List ℕ) → Option Line
line_in_words moment name words = do
  at ← decimal_number moment
  verb ← verb_at name
  step ← step_at verb words
  Some (record { moment = at; step = step; fails = fails_by verb })

-- a line of these words, if it is one
abbrev pub line_in : List (List ℕ) → Option Line
line_in (moment ∷ name ∷ words) = line_in_words moment name words
line_in words = None

abbrev pub line_at : List ℕ → Option Line
line_at text = line_in (line_words text)
