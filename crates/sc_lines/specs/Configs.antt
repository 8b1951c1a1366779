-- Configurations, a line for each field.
use Rattle.std.specs.Prelude.{ℕ, ◌==◌, Bool, true, false, List, [], ◌∷◌, codes}
use Rattle.std.specs.Prelude.{if◌then◌else◌}
use Rattle.scm_model.specs.declared.calls.Shown.{Shown}
use Rattle.scm_model.specs.declared.codes.TheConstants.{SERVICE_AUTO_START, SERVICE_DEMAND_START, SERVICE_DISABLED, SERVICE_ERROR_IGNORE}
use Rattle.scm_model.specs.declared.codes.TheConstants.{SERVICE_ERROR_NORMAL, SERVICE_ERROR_SEVERE, SERVICE_ERROR_CRITICAL}
use Rattle.sc_lines.specs.Lines.{Field, Named, Number, Text, lines}

abbrev pub automatic_name : Bool → List ℕ
automatic_name true = codes "AUTO_START (DELAYED)"
automatic_name false = codes "AUTO_START"

-- when a service is started
abbrev pub start_name : (start : ℕ) → (delayed : Bool) → List ℕ
start_name start delayed =
    if start == SERVICE_AUTO_START then automatic_name delayed
    else if start == SERVICE_DEMAND_START then codes "DEMAND_START"
    else if start == SERVICE_DISABLED then codes "DISABLED"
    else codes "UNKNOWN"

abbrev pub error_name : ℕ → List ℕ
error_name error =
    if error == SERVICE_ERROR_IGNORE then codes "IGNORE"
    else if error == SERVICE_ERROR_NORMAL then codes "NORMAL"
    else if error == SERVICE_ERROR_SEVERE then codes "SEVERE"
    else if error == SERVICE_ERROR_CRITICAL then codes "CRITICAL"
    else codes "UNKNOWN"

-- the fields in the order of sc.exe
abbrev pub config_fields : List ℕ → Shown → (start error : List ℕ) → List Field
config_fields name c start error =
    Text (codes "SERVICE_NAME: ") name ∷ Number (codes "TYPE: ") c.kind
    ∷ Named (codes "START_TYPE: ") c.start start ∷ Named (codes "ERROR_CONTROL: ") c.error error
    ∷ Text (codes "BINARY_PATH_NAME: ") c.path ∷ Text (codes "LOAD_ORDER_GROUP: ") c.group ∷ Number (codes "TAG: ") c.tag
    ∷ Text (codes "DISPLAY_NAME: ") c.display ∷ Text (codes "DEPENDENCIES: ") c.needs ∷ Text (codes "SERVICE_START_NAME: ") c.account ∷ []

abbrev pub config_text : List ℕ → Shown → (delayed : Bool) → List ℕ
config_text name c delayed = lines (config_fields name c (start_name c.start delayed) (error_name c.error))
