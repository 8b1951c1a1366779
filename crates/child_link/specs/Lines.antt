-- What a child's lines report, and the lines that it is sent.
use Rattle.std.specs.Prelude.{ℕ, Bool, not, ◌≡◌, ◌≢◌, ◌-◌, ◌^◌, ◌<◌, ◌≤◌, ◌==◌, ◌&&◌, ◌⊎◌, nat_le, List, [], ◌∷◌, ◌++◌, length, map, take}
use Rattle.std.specs.Prelude.{Option, None}
use Rattle.std.specs.Prelude.{Some, drop, is_none, option_and_then, option_map, slice_index_or, unwrap_or, bytes_eq, codes, decimal}
use Rattle.std.specs.Prelude.{if◌then◌else◌}
use Rattle.std.specs.List.{All, flat_map, join_with_byte}
use Rattle.std.specs.Option.{option_or}
use Rattle.scm_model.specs.declared.flat.Order.{Order}
use Rattle.scm_model.specs.declared.flat.Status.{Status}
use Rattle.scm_model.specs.declared.steps.Step.{Step}
use Rattle.scm_model.specs.declared.steps.Step.TheVariants.{Report}
use Rattle.scm_model.specs.Statuses.{status_numbers}
use Rattle.child_link.specs.Words.{words_in, nth_word, word_code, word_number}
use Rattle.child_link.specs.declared.lines.Reported.{Reported}

-- ## Reports

abbrev pub reported_of : ℕ → Status → Reported
reported_of service status = record { service = service; status = status }

-- STATUS and numbers in decimal form, one space between two words
abbrev pub numbers_text : List ℕ → List ℕ
numbers_text numbers = join_with_byte 32 (codes "STATUS" ∷ map decimal numbers)

-- the report of a status, which names no service
abbrev pub report_text : Status → List ℕ
report_text status = numbers_text (status_numbers status)

-- the numbers of a report that names its service
abbrev pub naming_fields : Reported → List ℕ
naming_fields report = report.service ∷ status_numbers report.status

-- numbers in decimal form, each after a space
abbrev pub spaced : List ℕ → List ℕ
spaced numbers = flat_map (λ n. 32 ∷ decimal n) numbers

-- a line feed ends the line of a text, and a carriage return may stand before it
abbrev pub IsLineOf : List ℕ → List ℕ → Type 0
IsLineOf text line = (line ≡ text ++ 10 ∷ []) ⊎ (line ≡ text ++ 13 ∷ 10 ∷ [])

-- a line is a report: the service's number and the status, or the status alone, which names service 0
pub record IsReport (line : List ℕ) (report : Reported) : Type 0 where
  pub service : report.service < 2 ^ 64
  pub small : All (λ n. n < 2 ^ 32) (status_numbers report.status)
  pub text : IsLineOf (numbers_text (naming_fields report)) line ⊎ ((report.service ≡ 0) × IsLineOf (report_text report.status) line)
  pub short : length line ≤ 4096

-- the step of a report of a process
abbrev pub report_step : ℕ → Reported → Step
report_step process report = Report process report.service report.status

-- ## The report that a line is

-- what stands before this byte, where it is the last one
abbrev pub front_of : ℕ → List ℕ → Option (List ℕ)
front_of byte bytes = if slice_index_or bytes (length bytes - 1) 0 == byte then Some (take (length bytes - 1) bytes) else None

-- what stands before a line's feed, without a carriage return at its end
unfoldable pub line_text : List ℕ → Option (List ℕ)
line_text line = option_map (λ front. unwrap_or (front_of 13 front) front) (front_of 10 line)

infixl 10 ◌>>=◌
abbrev ◌>>=◌ : {A B : Type 0} → Option A → (A → Option B) → Option B
o >>= f = option_and_then f o

-- the status whose numbers these words are, and no words more
unfoldable pub status_of_words : List (List ℕ) → Option Status
status_of_words words = do
  kind ← word_code (nth_word words 0)
  state ← word_code (nth_word words 1)
  accepted ← word_code (nth_word words 2)
  win32 ← word_code (nth_word words 3)
  specific ← word_code (nth_word words 4)
  checkpoint ← word_code (nth_word words 5)
  hint ← word_code (nth_word words 6)
  if is_none (nth_word words 7)
      then Some (record {
        kind = kind;
        state = state;
        accepted = accepted;
        win32 = win32;
        specific = specific;
        checkpoint = checkpoint;
        hint = hint;
      })
      else None

-- the report that names its service by the first word
unfoldable pub naming_in : List (List ℕ) → Option Reported
naming_in words = do
  service ← word_number (nth_word words 0)
  status ← status_of_words (drop 1 words)
  Some (reported_of service status)

-- the report whose numbers these words are: seven, or eight of which the first names the service
unfoldable pub numbers_in : List (List ℕ) → Option Reported
numbers_in words = option_or (option_map (reported_of 0) (status_of_words words)) (naming_in words)

-- the report that words are
unfoldable pub report_in : List (List ℕ) → Option Reported
report_in [] = None
report_in (name ∷ words) = if bytes_eq name (codes "STATUS") then numbers_in words else None

-- the report that a line is, if it is one
unfoldable pub stated : List ℕ → Option Reported
stated line = option_and_then (λ text. report_in (words_in (Some text))) (line_text line)

-- ## What a child is sent

abbrev pub order_of : ℕ → ℕ → Order
order_of service code = record { service = service; code = code }

-- the line that hands on a control to a process of one service
abbrev pub control_text : ℕ → List ℕ
control_text code = codes "CONTROL " ++ decimal code ++ 10 ∷ []

-- a name as it is printed: ? stands for each unit that is no printable character of ASCII
abbrev pub printed_unit : ℕ → ℕ
printed_unit unit = if nat_le 32 unit && nat_le unit 126 then unit else 63

-- the line that tells a shared process which service is to start
abbrev pub start_text : ℕ → List ℕ → List ℕ
start_text service name = codes "START " ++ decimal service ++ 32 ∷ map printed_unit name ++ 10 ∷ []

-- the line that hands on a control for a service to a shared process
abbrev pub shared_control_text : Order → List ℕ
shared_control_text order = codes "CONTROL " ++ decimal order.service ++ 32 ∷ decimal order.code ++ 10 ∷ []

-- the line of an order to a shared process; with code 0 the service, which has this name, is to start
abbrev pub shared_text : Order → List ℕ → List ℕ
shared_text order name = if order.code == 0 then start_text order.service name else shared_control_text order

-- the line of an order to a process
abbrev pub order_text : Order → Bool → List ℕ → List ℕ
order_text order shared name = if shared then shared_text order name else control_text order.code

-- ## The control that a line hands on

-- the number that words are, and no words more
unfoldable pub code_in : List (List ℕ) → Option ℕ
code_in words = do
  code ← word_code (nth_word words 0)
  if is_none (nth_word words 1) then Some code else None

-- the control that words hand on
unfoldable pub control_in : List (List ℕ) → Option ℕ
control_in [] = None
control_in (name ∷ words) = if bytes_eq name (codes "CONTROL") then code_in words else None

-- the control that a line hands on, if it does
unfoldable pub handed_on : List ℕ → Option ℕ
handed_on line = option_and_then (λ text. control_in (words_in (Some text))) (front_of 10 line)

-- ## The order that a line hands on to a shared process

-- that a service is to start: its number, and at least one word of its name
unfoldable pub start_in : List (List ℕ) → Option Order
start_in words = do
  service ← word_number (nth_word words 0)
  name ← nth_word words 1
  Some (order_of service 0)

-- a control for a service, and no words more; 0 is none
unfoldable pub shared_control_in : List (List ℕ) → Option Order
shared_control_in words = do
  service ← word_number (nth_word words 0)
  code ← word_code (nth_word words 1)
  if not (code == 0) && is_none (nth_word words 2) then Some (order_of service code) else None

-- the order that words hand on
unfoldable pub order_in : List (List ℕ) → Option Order
order_in [] = None
order_in (name ∷ words) =
    if bytes_eq name (codes "START") then start_in words
    else if bytes_eq name (codes "CONTROL") then shared_control_in words else None

-- the order that a line hands on, if it does
unfoldable pub ordered : List ℕ → Option Order
ordered line = option_and_then (λ text. order_in (words_in (Some text))) (front_of 10 line)

-- a line hands on an order: it is the control's line, or that of a start, in which any name stands
pub record IsOrderLine (line : List ℕ) (order : Order) : Type 0 where
  pub service : order.service < 2 ^ 64
  pub code : order.code < 2 ^ 32
  pub text : ((order.code ≢ 0) × (line ≡ shared_control_text order))
      ⊎ ((order.code ≡ 0) × (name : List ℕ) × (line ≡ codes "START " ++ decimal order.service ++ 32 ∷ name ++ 10 ∷ []))
