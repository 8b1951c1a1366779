-- Triggers, as they stand in the bytes of their level.
use Rattle.std.specs.Prelude.{ℕ, ◌+◌, ◌==◌, List, [], ◌∷◌, ◌++◌, drop, codes, if◌then◌else◌}
use Rattle.std.specs.List.{flat_map}
use Rattle.scm_model.specs.declared.codes.TheConstants.{SERVICE_TRIGGER_ACTION_SERVICE_START, SERVICE_TRIGGER_ACTION_SERVICE_STOP}
use Rattle.scm_model.specs.declared.codes.TheConstants.{SERVICE_TRIGGER_TYPE_CUSTOM}
use Rattle.uuid.specs.Parts.{swap_fields}
use Rattle.uuid.specs.Text.{hyphenated_text, lower}
use Rattle.sc_lines.specs.Lines.{Text, lines}
use Rattle.sc_lines.specs.Printed.{printed}
use Rattle.sc_lines.specs.Reading.{byte_at, u32_at, rows}

abbrev pub trigger_action_name : ℕ → List ℕ
trigger_action_name action =
    if action == SERVICE_TRIGGER_ACTION_SERVICE_START then codes "START SERVICE"
    else if action == SERVICE_TRIGGER_ACTION_SERVICE_STOP then codes "STOP SERVICE"
    else codes "UNKNOWN"

abbrev pub kind_label : ℕ → List ℕ
kind_label kind = if kind == SERVICE_TRIGGER_TYPE_CUSTOM then codes "CUSTOM: " else codes "UNKNOWN: "

-- what the subtype of a type is
abbrev pub subtype_note : ℕ → List ℕ
subtype_note kind = if kind == SERVICE_TRIGGER_TYPE_CUSTOM then codes " [ETW PROVIDER UUID]\n" else codes "\n"

-- the sixteen bytes at a place
abbrev pub guid_at : List ℕ → ℕ → List ℕ
guid_at bytes at =
    byte_at bytes at ∷ byte_at bytes (at + 1) ∷ byte_at bytes (at + 2) ∷ byte_at bytes (at + 3)
    ∷ byte_at bytes (at + 4) ∷ byte_at bytes (at + 5) ∷ byte_at bytes (at + 6) ∷ byte_at bytes (at + 7)
    ∷ byte_at bytes (at + 8) ∷ byte_at bytes (at + 9) ∷ byte_at bytes (at + 10) ∷ byte_at bytes (at + 11)
    ∷ byte_at bytes (at + 12) ∷ byte_at bytes (at + 13) ∷ byte_at bytes (at + 14) ∷ byte_at bytes (at + 15) ∷ []

-- the UUID that lies at a place as it does in memory
unfoldable pub uuid_at : List ℕ → ℕ → List ℕ
uuid_at bytes at = swap_fields (guid_at bytes at)

unfoldable pub uuid_text : List ℕ → List ℕ
uuid_text uuid = hyphenated_text lower uuid

-- what a trigger does, and what is raised for it
abbrev pub trigger_text : (action label subtype note : List ℕ) → List ℕ
trigger_text action label subtype note = (action ++ codes "\n") ++ ((label ++ subtype) ++ note)

abbrev pub trigger_by : (action : List ℕ) → (kind : ℕ) → (subtype : List ℕ) → List ℕ
trigger_by action kind subtype = trigger_text action (kind_label kind) subtype (subtype_note kind)

-- the type, the action and the subtype
abbrev pub trigger_lines : List ℕ → List ℕ
trigger_lines row = trigger_by (trigger_action_name (u32_at row 4)) (u32_at row 0) (uuid_text (uuid_at row 8))

abbrev pub no_triggers : (name : List ℕ) → List ℕ
no_triggers name = codes "The service " ++ (printed name ++ codes " has not registered for any start or stop triggers.\n")

-- so many triggers, as far as they are whole
abbrev pub counted_triggers : (count : ℕ) → List ℕ → List ℕ
counted_triggers count bytes = flat_map trigger_lines (rows 24 count (drop 4 bytes))

abbrev pub named_triggers : (name : List ℕ) → (count : ℕ) → List ℕ → List ℕ
named_triggers name count bytes = lines (Text (codes "SERVICE_NAME: ") name ∷ []) ++ counted_triggers count bytes

-- how many triggers there are, and the triggers
abbrev pub triggers_text : (name bytes : List ℕ) → List ℕ
triggers_text name bytes = if u32_at bytes 0 == 0 then no_triggers name else named_triggers name (u32_at bytes 0) bytes
