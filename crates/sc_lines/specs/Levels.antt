-- The levels of a configuration, as they stand in bytes.
use Rattle.std.specs.Prelude.{ℕ, ◌==◌, Bool, true, false, not, List, [], ◌∷◌, ◌++◌, drop, codes, decimal, if◌then◌else◌}
use Rattle.std.specs.List.{flat_map}
use Rattle.sc_lines.specs.Lines.{Field, Number, Text, Word, lines}
use Rattle.sc_lines.specs.Reading.{u32_at, rows, units_at}

abbrev pub description_fields : (name description : List ℕ) → List Field
description_fields name description = Text (codes "SERVICE_NAME: ") name ∷ Text (codes "DESCRIPTION: ") description ∷ []

-- an offset, and the text there
abbrev pub description_text : (name bytes : List ℕ) → List ℕ
description_text name bytes = lines (description_fields name (units_at bytes (u32_at bytes 0)))

-- ## What is done after failures

abbrev pub action_name : ℕ → List ℕ
action_name what =
    if what == 0 then codes "NONE"
    else if what == 1 then codes "RESTART"
    else if what == 2 then codes "REBOOT"
    else if what == 3 then codes "RUN PROCESS"
    else codes "UNKNOWN"

abbrev pub action_text : (name delay : List ℕ) → List ℕ
action_text name delay = codes "FAILURE_ACTIONS: " ++ (name ++ (codes " -- Delay = " ++ (delay ++ codes " milliseconds.\n")))

-- an action, and its delay
abbrev pub action_line : List ℕ → List ℕ
action_line row = action_text (action_name (u32_at row 0)) (decimal (u32_at row 4))

-- seconds; the greatest number is INFINITE
abbrev pub period_field : ℕ → Field
period_field reset = if reset == 0xFFFFFFFF then Word (codes "RESET_PERIOD (in seconds): ") (codes "INFINITE")
    else Number (codes "RESET_PERIOD (in seconds): ") reset

abbrev pub failure_fields : (name : List ℕ) → (reset : ℕ) → (message command : List ℕ) → List Field
failure_fields name reset message command =
    Text (codes "SERVICE_NAME: ") name ∷ period_field reset ∷ Text (codes "REBOOT_MESSAGE: ") message ∷ Text
    (codes "COMMAND_LINE: ") command ∷ []

-- the reset period, the offsets of the message and of the command, and how many actions stand where
abbrev pub failure_text : (name bytes : List ℕ) → List ℕ
failure_text name bytes =
    lines (failure_fields name (u32_at bytes 0) (units_at bytes (u32_at bytes 4)) (units_at bytes (u32_at bytes 8)))
    ++ flat_map action_line (rows 8 (u32_at bytes 12) (drop (u32_at bytes 16) bytes))

-- ## Flags

abbrev pub flag_name : Bool → List ℕ
flag_name true = codes "TRUE"
flag_name false = codes "FALSE"

-- whether a flag is on
abbrev pub is_on : List ℕ → Bool
is_on bytes = not (u32_at bytes 0 == 0)

abbrev pub flag_fields : (name flag : List ℕ) → List Field
flag_fields name flag = Text (codes "SERVICE_NAME: ") name ∷ Word (codes "FAILURE_ACTIONS_ON_NONCRASH_FAILURES: ") flag ∷ []

abbrev pub flag_text : (name bytes : List ℕ) → List ℕ
flag_text name bytes = lines (flag_fields name (flag_name (is_on bytes)))
