-- Triggers, as they stand in the words of a command.
use Rattle.std.specs.Prelude.{ℕ, ◌==◌, List, [], ◌∷◌, length, Option, None, Some, option_and_then, option_map, bytes_eq, codes}
use Rattle.std.specs.Prelude.{if◌then◌else◌}
use Rattle.scm_model.specs.declared.calls.TriggerIn.{TriggerIn}
use Rattle.scm_model.specs.declared.codes.TheConstants.{SERVICE_TRIGGER_ACTION_SERVICE_START, SERVICE_TRIGGER_ACTION_SERVICE_STOP}
use Rattle.scm_model.specs.declared.codes.TheConstants.{SERVICE_TRIGGER_TYPE_CUSTOM}
use Rattle.uuid.specs.Parts.{swap_fields}
use Rattle.uuid.specs.Text.{parsed}
use Rattle.sc_words.specs.Values.{slash_pieces}

abbrev pub trigger_action : List ℕ → Option ℕ
trigger_action word =
    if bytes_eq word (codes "start") then Some SERVICE_TRIGGER_ACTION_SERVICE_START
    else if bytes_eq word (codes "stop") then Some SERVICE_TRIGGER_ACTION_SERVICE_STOP
    else None

abbrev pub trigger_kind : List ℕ → Option ℕ
trigger_kind word = if bytes_eq word (codes "custom") then Some SERVICE_TRIGGER_TYPE_CUSTOM else None

-- a UUID
unfoldable pub uuid_named : List ℕ → Option (List ℕ)
uuid_named word = parsed word

-- a UUID as it lies in memory, of the form with hyphens, which has 36 characters
unfoldable pub subtype_named : List ℕ → Option (List ℕ)
subtype_named word = if length word == 36 then option_map swap_fields (uuid_named word) else None

unfoldable pub trigger_of_parts : (action kind subtype : List ℕ) → Option TriggerIn
trigger_of_parts action kind subtype =
    option_and_then (λ a. option_and_then (λ k. option_map (λ s. record { kind = k; action = a; subtype = Some s; items = 0 })
    (subtype_named subtype)) (trigger_kind kind)) (trigger_action action)

abbrev pub trigger_of : List (List ℕ) → Option TriggerIn
trigger_of (action ∷ kind ∷ subtype ∷ []) = trigger_of_parts action kind subtype
trigger_of _ = None

-- an action, a type and a subtype with `/` between them
unfoldable pub trigger_named : List ℕ → Option TriggerIn
trigger_named word = trigger_of (slash_pieces word)
