-- The bytes of a journal: a header, and after it an entry for each change.
use Rattle.std.specs.Prelude.{ℕ, ◌==◌, List, [], ◌∷◌, ◌++◌, length, if◌then◌else◌}
use Rattle.std.specs.List.{flat_map}
use Rattle.scm_model.specs.declared.flat.Config.{Config}
use Rattle.scm_model.specs.declared.steps.Change.{Change}
use Rattle.scm_model.specs.declared.steps.Change.TheVariants.{Created, Changed, Removed}
use Rattle.service_record.specs.Spelling.{IsConfig, IsConfig_1, FitsNumber, FitsText, number, encoding, encoding_1, held, text}
use Rattle.scm_model.specs.declared.steps.Form.{Form}
use Rattle.scm_model.specs.declared.steps.Form.TheVariants.{First, Second}

-- `SCMJ`, and 1 or 2 for the form
abbrev pub header_of : Form → List ℕ
header_of First = 0x53 ∷ 0x43 ∷ 0x4D ∷ 0x4A ∷ 1 ∷ 0 ∷ 0 ∷ 0 ∷ []
header_of Second = 0x53 ∷ 0x43 ∷ 0x4D ∷ 0x4A ∷ 2 ∷ 0 ∷ 0 ∷ 0 ∷ []

-- what a new journal begins with
abbrev pub header : List ℕ
header = header_of Second

-- kind 4 and no body: the entries after it are of form 2
abbrev pub switch : List ℕ
switch = 4 ∷ 0 ∷ 0 ∷ 0 ∷ 0 ∷ []

abbrev pub entry_kind : Change → ℕ
entry_kind (Created config) = 1
entry_kind (Changed config) = 2
entry_kind (Removed name) = 3

abbrev pub config_in : Form → Config → List ℕ
config_in First config = encoding_1 config
config_in Second config = encoding config

-- a configuration, or a name
abbrev pub body_in : Form → Change → List ℕ
body_in form (Created config) = config_in form config
body_in form (Changed config) = config_in form config
body_in form (Removed name) = text name

-- the kind, the length of the body, and the body
unfoldable pub entry_in : Form → Change → List ℕ
entry_in form change = entry_kind change ∷ number (length (body_in form change)) ++ body_in form change

-- each number and each text of a configuration has its bytes
abbrev pub HasConfig : Form → Config → Type 0
HasConfig First config = IsConfig_1 config
HasConfig Second config = IsConfig config

abbrev pub HasBodyIn : Form → Change → Type 0
HasBodyIn form (Created config) = HasConfig form config
HasBodyIn form (Changed config) = HasConfig form config
HasBodyIn form (Removed name) = FitsText name

-- and the length of the body has its four
pub record HasEntryIn (form : Form) (change : Change) : Type 0 where
  pub body : HasBodyIn form change
  pub length : FitsNumber (length (body_in form change))

abbrev pub held_change : Change → Change
held_change (Created config) = Created (held config)
held_change (Changed config) = Changed (held config)
held_change (Removed name) = Removed name

-- what an entry holds of a change
abbrev pub held_in : Form → Change → Change
held_in First change = held_change change
held_in Second change = change

-- ## What is written is of form 2

abbrev pub body_of : Change → List ℕ
body_of change = body_in Second change

abbrev pub entry_bytes : Change → List ℕ
entry_bytes change = entry_in Second change

abbrev pub HasBody : Change → Type 0
HasBody change = HasBodyIn Second change

abbrev pub HasEntry : Change → Type 0
HasEntry change = HasEntryIn Second change

-- a journal of changes: nothing, or the header and the entries in order
abbrev pub journal_bytes : List Change → List ℕ
journal_bytes [] = []
journal_bytes (change ∷ changes) = header ++ flat_map entry_bytes (change ∷ changes)

-- what ends a form before an entry of form 2
abbrev pub turn_from : Form → List ℕ
turn_from First = switch
turn_from Second = []

-- what comes before an entry that is appended after so many bytes, which end in this form
abbrev pub front_at : ℕ → Form → List ℕ
front_at kept form = if kept == 0 then header else turn_from form

-- what is appended for a change after so many bytes, which end in this form
unfoldable pub piece : ℕ → Form → Change → List ℕ
piece kept form change = front_at kept form ++ entry_bytes change
