-- The lines before the entries: limits, a moment, the listed groups and the configurations.
use Rattle.std.specs.Prelude.{ℕ, ◌==◌, ◌<◌, ◌^◌, List, [], ◌∷◌, ◌++◌, length, map, drop, codes, decimal}
use Rattle.std.specs.Prelude.{Option, None, Some, ◌/◌, bytes_eq, if◌then◌else◌}
use Rattle.std.specs.Int.{w16, to_le_bytes}
use Rattle.std.specs.List.{flat_map, list_any}
use Rattle.std.specs.Result.{result_ok}
use Rattle.decimal_words.specs.Numbers.{number_below}
use Rattle.hex.specs.Hex.{IsBytes, encode_lower}
use Rattle.ndr_body.specs.Units.{le_units}
use Rattle.scm_model.specs.declared.flat.Config.{Config}
use Rattle.scm_model.specs.declared.flat.Limits.{Limits}
use Rattle.service_record.specs.Reading.{record_of}
use Rattle.service_record.specs.Spelling.{IsConfig, encoding}
use Rattle.scm_lines.specs.Entries.{spaced}
use Rattle.scm_lines.specs.Words.{◌>>=◌, decimal_at, hex_at, line_words}
use Rattle.opening_lines.specs.declared.opening.Opening.{Opening}

-- ## As they are written, without their line feeds

abbrev pub limit_numbers : Limits → List ℕ
limit_numbers l = l.services ∷ l.handles ∷ l.registrations ∷ l.callers ∷ l.processes ∷ l.controls ∷ l.steps ∷ l.text ∷ []

abbrev pub limits_line : Limits → List ℕ
limits_line l = codes "limits" ++ spaced (map decimal (limit_numbers l))

abbrev pub moment_line : ℕ → List ℕ
moment_line moment = codes "moment" ++ spaced (decimal moment ∷ [])

-- the units of a group, the low byte of each first
abbrev pub group_line : List ℕ → List ℕ
group_line group = codes "group" ++ spaced (encode_lower (flat_map (to_le_bytes w16) group) ∷ [])

abbrev pub config_line : Config → List ℕ
config_line config = codes "config" ++ spaced (encode_lower (encoding config) ∷ [])

abbrev pub head_lines : Opening → List (List ℕ)
head_lines o = limits_line o.limits ∷ moment_line o.moment ∷ map group_line o.groups ++ map config_line o.configs

-- ## As they are read

-- the words after the first
abbrev pub later_words : List ℕ → List (List ℕ)
later_words line = drop 1 (line_words line)

-- the limits that words are, and no words more: six numbers of 32 bits, and two of 64
unfoldable pub limits_in_words : List (List ℕ) → Option Limits
limits_in_words (services ∷ handles ∷ registrations ∷ callers ∷ processes ∷ controls ∷ steps ∷ text ∷ []) = do
  a ← number_below (2 ^ 32) services
  b ← number_below (2 ^ 32) handles
  c ← number_below (2 ^ 32) registrations
  d ← number_below (2 ^ 32) callers
  e ← number_below (2 ^ 32) processes
  f ← number_below (2 ^ 32) controls
  g ← decimal_at steps
  h ← decimal_at text
  Some (record { services = a; handles = b; registrations = c; callers = d; processes = e; controls = f; steps = g; text = h })
limits_in_words words = None

abbrev pub only_one : {A : Type 0} → List A → Option A
only_one (x ∷ []) = Some x
only_one xs = None

abbrev pub moment_in_words : List (List ℕ) → Option ℕ
moment_in_words words = only_one words >>= decimal_at

abbrev pub bytes_in_words : List (List ℕ) → Option (List ℕ)
bytes_in_words words = only_one words >>= hex_at

-- no unit of a text is 0
abbrev pub text_of_units : List ℕ → Option (List ℕ)
text_of_units units = if list_any (λ u. u == 0) units then None else Some units

abbrev pub group_of_bytes : List ℕ → Option (List ℕ)
group_of_bytes bytes = text_of_units (le_units (length bytes / 2) bytes)

abbrev pub group_in_words : List (List ℕ) → Option (List ℕ)
group_in_words words = bytes_in_words words >>= group_of_bytes

abbrev pub config_of_bytes : List ℕ → Option Config
config_of_bytes bytes = result_ok (record_of bytes)

abbrev pub config_in_words : List (List ℕ) → Option Config
config_in_words words = bytes_in_words words >>= config_of_bytes

-- a line says a value if it is the line that is written of it
abbrev pub if_written : {A : Type 0} → (A → List ℕ) → List ℕ → A → Option A
if_written write line x = if bytes_eq (write x) line then Some x else None

abbrev pub limits_at : List ℕ → Option Limits
limits_at line = limits_in_words (later_words line) >>= if_written limits_line line

abbrev pub moment_at : List ℕ → Option ℕ
moment_at line = moment_in_words (later_words line) >>= if_written moment_line line

abbrev pub group_at : List ℕ → Option (List ℕ)
group_at line = group_in_words (later_words line) >>= if_written group_line line

abbrev pub config_at : List ℕ → Option Config
config_at line = config_in_words (later_words line) >>= if_written config_line line

-- ## What is read of them

-- numbers of the bits that limits have
pub record AreInRange (l : Limits) : Type 0 where
  pub services : l.services < 2 ^ 32
  pub handles : l.handles < 2 ^ 32
  pub registrations : l.registrations < 2 ^ 32
  pub callers : l.callers < 2 ^ 32
  pub processes : l.processes < 2 ^ 32
  pub controls : l.controls < 2 ^ 32
  pub steps : l.steps < 2 ^ 64
  pub text : l.text < 2 ^ 64

-- a configuration that a record encodes
abbrev pub HasRecord : Config → Type 0
HasRecord config = IsConfig config × IsBytes (encoding config)
