-- What the program does of its words.
use Rattle.std.specs.Prelude.{ℕ, ◌≡◌, ◌<◌, ◌^◌, ◌==◌, ◌||◌, ◌⊎◌, not, Bool, true, false, codes, is_none, List, [], ◌∷◌, ◌++◌, length, All}
use Rattle.std.specs.Prelude.{filter}
use Rattle.std.specs.Prelude.{Option, None, Some, Result, Ok, Err, nat_eq, bit_or, if◌then◌else◌}
use Rattle.std.specs.Cmp.Lexicographic.{pointwise}
use Rattle.std.specs.Io.KnownBytes.{Appends, Consumes, IsAtEnd}
use Rattle.std.specs.List.{FoldsTo, list_any}
use Rattle.outside.specs.Causes.{Rose}
use Rattle.scm_model.specs.declared.codes.TheConstants.{SERVICE_ACCEPT_PAUSE_CONTINUE, SERVICE_ACCEPT_STOP, SERVICE_CONTROL_CONTINUE}
use Rattle.scm_model.specs.declared.codes.TheConstants.{SERVICE_CONTROL_INTERROGATE, SERVICE_CONTROL_PAUSE, SERVICE_CONTROL_STOP}
use Rattle.scm_model.specs.declared.codes.TheConstants.{SERVICE_PAUSED, SERVICE_RUNNING, SERVICE_START_PENDING, SERVICE_STOPPED}
use Rattle.scm_model.specs.declared.codes.TheConstants.{SERVICE_STOP_PENDING, SERVICE_WIN32_OWN_PROCESS, SERVICE_WIN32_SHARE_PROCESS}
use Rattle.scm_model.specs.declared.flat.Order.{Order}
use Rattle.scm_model.specs.declared.flat.Status.{Status}
use Rattle.child_link.specs.Cutting.{kept, kept_line}
use Rattle.child_link.specs.Lines.{handed_on, naming_fields, numbers_text, ordered, report_text, reported_of}
use Rattle.demo_service.specs.declared.fault.DemoFault.{DemoFault}
use Rattle.demo_service.specs.declared.fault.DemoFault.TheVariants as faults
use Rattle.demo_service.specs.declared.waiting.Came.{Came}
use Rattle.demo_service.specs.declared.waiting.Came.TheVariants.{Byte, Feed, End}
use Rattle.demo_service.specs.declared.word.Word.{Word}
use Rattle.demo_service.specs.declared.word.Word.TheVariants.{Report, Share, Wait}

-- ## Words

abbrev pub is_text : List ℕ → List ℕ → Bool
is_text = pointwise nat_eq

-- the word that a text is
abbrev pub word_of : List ℕ → Option Word
word_of text =
    if is_text text (codes "pending") then Some (Report SERVICE_START_PENDING)
    else if is_text text (codes "running") then Some (Report SERVICE_RUNNING)
    else if is_text text (codes "paused") then Some (Report SERVICE_PAUSED)
    else if is_text text (codes "stopping") then Some (Report SERVICE_STOP_PENDING)
    else if is_text text (codes "stopped") then Some (Report SERVICE_STOPPED)
    else if is_text text (codes "wait") then Some Wait
    else if is_text text (codes "shared") then Some Share
    else None

abbrev pub is_unknown : List ℕ → Bool
is_unknown text = is_none (word_of text)

-- ## Reports

-- STOP, PAUSE and CONTINUE are taken in RUNNING and PAUSED
abbrev pub accepted_in : ℕ → ℕ
accepted_in state = if state == SERVICE_RUNNING || state == SERVICE_PAUSED then bit_or SERVICE_ACCEPT_STOP SERVICE_ACCEPT_PAUSE_CONTINUE
    else 0

abbrev pub status_as : (kind state accepted : ℕ) → Status
status_as kind state accepted =
    record {
      kind = kind;
      state = state;
      accepted = accepted;
      win32 = 0;
      specific = 0;
      checkpoint = 0;
      hint = 0;
    }

-- the line that reports a state
abbrev pub report_of : ℕ → List ℕ
report_of state = report_text (status_as SERVICE_WIN32_OWN_PROCESS state (accepted_in state)) ++ 10 ∷ []

-- a service of a shared process takes STOP in RUNNING
abbrev pub shared_accepted_in : ℕ → ℕ
shared_accepted_in state = if state == SERVICE_RUNNING then SERVICE_ACCEPT_STOP else 0

-- the line that reports a status of the service with this number
abbrev pub naming_line : ℕ → Status → List ℕ
naming_line service status = numbers_text (naming_fields (reported_of service status)) ++ 10 ∷ []

-- the line that reports a state of a service of a shared process
abbrev pub shared_report_of : (service state : ℕ) → List ℕ
shared_report_of service state = naming_line service (status_as SERVICE_WIN32_SHARE_PROCESS state (shared_accepted_in state))

-- ## Doing

-- what the input and the output tell
pub record Point : Type 0 where
  -- what is still to be read
  pub left : Option (List ℕ)
  -- what was written
  pub held : Option (List ℕ)

abbrev pub point_at : Option (List ℕ) → Option (List ℕ) → Point
point_at left held = record { left = left; held = held }

-- whether a control, or a line that is none, lets the program wait on
abbrev pub waits_on : Option ℕ → Bool
waits_on None = true
waits_on (Some code) = not (code == SERVICE_CONTROL_STOP)

-- what is reported of it
abbrev pub report_to : Option ℕ → List ℕ
report_to None = []
report_to (Some code) = if code == SERVICE_CONTROL_PAUSE then report_of SERVICE_PAUSED else if code == SERVICE_CONTROL_CONTINUE
    then report_of SERVICE_RUNNING else []

-- no line feed stands in it
abbrev pub IsWholeLine : List ℕ → Type 0
IsWholeLine front = All (λ b. (b == 10) ≡ false) front

-- A line has fewer bytes than this before its feed, and the program waits through fewer lines than this.
abbrev pub IsBelowMost : {A : Type 0} → List A → Type 0
IsBelowMost xs = length xs < 2 ^ 40

-- the line of these bytes and a line feed was read and answered, and lets the program wait on or not
pub record Hears (on : Bool) (a : Point) (front : List ℕ) (b : Point) : Type 0 where
  pub line : IsWholeLine front
  pub few : IsBelowMost front
  pub read : Consumes a.left b.left (front ++ 10 ∷ [])
  pub goes : waits_on (handed_on (front ++ 10 ∷ [])) ≡ on
  pub told : Appends a.held b.held (report_to (handed_on (front ++ 10 ∷ [])))

-- the input ended, and no line was there
pub record Ends (a b : Point) : Type 0 where
  pub rest : List ℕ
  pub line : IsWholeLine rest
  pub few : IsBelowMost rest
  pub read : Consumes a.left b.left rest
  pub end : IsAtEnd b.left
  pub told : b.held ≡ a.held

-- the line that stops was heard, or the input ended
abbrev pub Stops : Point → Point → Type 0
Stops a b = ((front : List ℕ) × Hears false a front b) ⊎ Ends a b

-- a line was heard on which the program waits on; or it doesn't
abbrev pub HearsOne : Point → Bool → Point → Type 0
HearsOne a true b = (front : List ℕ) × Hears true a front b
HearsOne a false b = Stops a b

-- lines were heard up to the one that stops, or to the end of the input
pub record Waits (a b : Point) : Type 0 where
  pub fronts : List (List ℕ)
  pub last : Point
  pub hears : FoldsTo (Hears true) a fronts last
  pub few : IsBelowMost fronts
  pub stops : Stops last b

-- so many bytes were read as a line may not have, and no feed was among them
pub record WearsLine (left left' : Option (List ℕ)) : Type 0 where
  pub front : List ℕ
  pub line : IsWholeLine front
  pub most : length front ≡ 2 ^ 40
  pub read : Consumes left left' front

-- after these lines: they are too many, or the next one is too long
abbrev pub IsWorn : (fronts : List (List ℕ)) → Point → Point → Type 0
IsWorn fronts a b = ((length fronts ≡ 2 ^ 40) × (b ≡ a)) ⊎ (IsBelowMost fronts × WearsLine a.left b.left × (b.held ≡ a.held))

-- lines were heard that let the program wait on, up to the greatest number of them or to a line that is too long
pub record WearsOut (a b : Point) : Type 0 where
  pub fronts : List (List ℕ)
  pub last : Point
  pub hears : FoldsTo (Hears true) a fronts last
  pub worn : IsWorn fronts last b

-- ## The orders of a shared process

-- the services that run after an order: each that was started and not stopped since
abbrev pub running_after : List ℕ → Order → List ℕ
running_after running order = if order.code == 0 then running ++ order.service ∷ [] else if order.code == SERVICE_CONTROL_STOP
    then filter (λ number. not (number == order.service)) running else running

abbrev pub is_running : (running : List ℕ) → (service : ℕ) → Bool
is_running running service = list_any (λ number. number == service) running

abbrev pub state_of : (running : List ℕ) → (service : ℕ) → ℕ
state_of running service = if is_running running service then SERVICE_RUNNING else SERVICE_STOPPED

-- a start, STOP and INTERROGATE are answered
abbrev pub is_answered : ℕ → Bool
is_answered code = code == 0 || code == SERVICE_CONTROL_STOP || code == SERVICE_CONTROL_INTERROGATE

-- with the state that the service has after the order
abbrev pub answer_to : (running : List ℕ) → Order → List ℕ
answer_to running order = if is_answered order.code then shared_report_of order.service (state_of running order.service) else []

-- what a shared process makes of a line, which may be no order
pub record Obeyed : Type 0 where
  pub running : List ℕ
  pub told : List ℕ

abbrev pub obeyed : List ℕ → Option Order → Obeyed
obeyed running None = record { running = running; told = [] }
obeyed running (Some order) =
    let now = running_after running order in
    record { running = now; told = answer_to now order }

-- the services that run, and what the input and the output tell
pub record SharedPoint : Type 0 where
  pub running : List ℕ
  pub at : Point

abbrev pub shared_at : List ℕ → Point → SharedPoint
shared_at running at = record { running = running; at = at }

-- The line of these bytes and a line feed was read and obeyed. Of a longer line the first 4,096 bytes are read.
pub record Obeys (a : SharedPoint) (front : List ℕ) (b : SharedPoint) : Type 0 where
  pub line : IsWholeLine front
  pub few : IsBelowMost front
  pub read : Consumes a.at.left b.at.left (front ++ 10 ∷ [])
  pub runs : b.running ≡ (obeyed a.running (ordered (kept_line front))).running
  pub told : Appends a.at.held b.at.held (obeyed a.running (ordered (kept_line front))).told

-- a line was obeyed; or the input ended
abbrev pub ObeysOne : SharedPoint → Bool → SharedPoint → Type 0
ObeysOne a true b = (front : List ℕ) × Obeys a front b
ObeysOne a false b = Ends a.at b.at

-- lines were obeyed, from none running on, up to the end of the input
pub record Shares (a b : Point) : Type 0 where
  pub fronts : List (List ℕ)
  pub last : SharedPoint
  pub obeys : FoldsTo Obeys (shared_at [] a) fronts last
  pub few : IsBelowMost fronts
  pub ends : Ends last.at b

-- lines were obeyed, up to the greatest number of them or to a line that is too long
pub record WearsShared (a b : Point) : Type 0 where
  pub fronts : List (List ℕ)
  pub last : SharedPoint
  pub obeys : FoldsTo Obeys (shared_at [] a) fronts last
  pub worn : IsWorn fronts last.at b

-- ## Words done

abbrev pub DoesWord : Point → Option Word → Point → Type 0
DoesWord a None b = ⊥
DoesWord a (Some (Report state)) b = (b.left ≡ a.left) × Appends a.held b.held (report_of state)
DoesWord a (Some Wait) b = Waits a b
DoesWord a (Some Share) b = Shares a b

-- the word of a text was done
abbrev pub Does : Point → List ℕ → Point → Type 0
Does a text b = DoesWord a (word_of text) b

-- the program wore out at a word, which is one that reads lines
abbrev pub WearsWord : Point → Option Word → Point → Type 0
WearsWord a (Some Wait) b = WearsOut a b
WearsWord a (Some Share) b = WearsShared a b
WearsWord a _ b = ⊥

-- the same at the word of a text
abbrev pub WearsAt : Point → List ℕ → Point → Type 0
WearsAt a text b = WearsWord a (word_of text) b

-- the texts before one were done, and the program wore out at that one
pub record WearsIn (a : Point) (texts : List (List ℕ)) (b : Point) : Type 0 where
  pub front : List (List ℕ)
  pub text : List ℕ
  pub rest : List (List ℕ)
  pub are : texts ≡ front ++ text ∷ rest
  pub mid : Point
  pub does : FoldsTo Does a front mid
  pub wears : WearsAt mid text b

-- ## Lines

-- the bytes of a line up to its feed were read, and these of them are kept; or the input ended before a feed came
abbrev pub ReadsLine : Option (List ℕ) → Option (List ℕ) → (line : List ℕ) → Bool → Type 0
ReadsLine left left' line true = (front : List ℕ) × IsWholeLine front × Consumes left left' (front ++ 10 ∷ []) × (line ≡ kept_line front)
    × IsBelowMost front
ReadsLine left left' line false = (rest : List ℕ) × IsWholeLine rest × Consumes left left' rest × IsAtEnd left' × IsBelowMost rest

-- a byte of a line was read, or its feed; or the input was at its end
abbrev pub ReadsByte : Option (List ℕ) → Option (List ℕ) → (line line' : List ℕ) → Came → Type 0
ReadsByte left left' line line' Byte = (byte : ℕ) × ((byte == 10) ≡ false) × Consumes left left' (byte ∷ [])
    × (line' ≡ kept (line ++ byte ∷ []))
ReadsByte left left' line line' Feed = Consumes left left' (10 ∷ []) × (line' ≡ line ++ 10 ∷ [])
ReadsByte left left' line line' End = Consumes left left' [] × IsAtEnd left'

-- ## Faults

-- A fault of the output or the input comes only where its count of faults rose. `WearsLine` and `WearsOut` say when the program wears out.
abbrev pub IsOfOutput : (output output_now : ℕ) → DemoFault → Type 0
IsOfOutput output output_now faults.Write = Rose output output_now
IsOfOutput output output_now faults.OutOfMemory = Unit {0}
IsOfOutput output output_now _ = ⊥

abbrev pub IsOfByte : (input input_now : ℕ) → DemoFault → Type 0
IsOfByte input input_now faults.Read = Rose input input_now
IsOfByte input input_now _ = ⊥

abbrev pub IsOfInput : (input input_now : ℕ) → DemoFault → Type 0
IsOfInput input input_now faults.Read = Rose input input_now
IsOfInput input input_now faults.Worn = Unit {0}
IsOfInput input input_now _ = ⊥

-- a fault of the input or the output comes only where its count of faults rose; a word that isn't known isn't met
abbrev pub IsFaultCaused : (input input_now output output_now : ℕ) → DemoFault → Type 0
IsFaultCaused input input_now output output_now faults.Read = Rose input input_now
IsFaultCaused input input_now output output_now faults.Write = Rose output output_now
IsFaultCaused input input_now output output_now faults.Words = ⊥
IsFaultCaused input input_now output output_now faults.OutOfMemory = Unit {0}
IsFaultCaused input input_now output output_now faults.Worn = Unit {0}

-- the same where the word of a text is done
abbrev pub IsCausedAt : (text : List ℕ) → (input input_now output output_now : ℕ) → DemoFault → Type 0
IsCausedAt text input input_now output output_now faults.Words = is_unknown text ≡ true
IsCausedAt text input input_now output output_now fault = IsFaultCaused input input_now output output_now fault

-- and where the words of several are: one of them is no word
abbrev pub IsCausedIn : (texts : List (List ℕ)) → (input input_now output output_now : ℕ) → DemoFault → Type 0
IsCausedIn texts input input_now output output_now faults.Words = list_any is_unknown texts ≡ true
IsCausedIn texts input input_now output output_now fault = IsFaultCaused input input_now output output_now fault

-- the status of the program
abbrev pub exit_status : Result (Unit {0}) DemoFault → ℕ
exit_status (Ok done) = 0
exit_status (Err faults.Read) = 1
exit_status (Err faults.Write) = 2
exit_status (Err faults.Words) = 5
exit_status (Err faults.OutOfMemory) = 8
exit_status (Err faults.Worn) = 12
