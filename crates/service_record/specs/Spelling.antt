-- The bytes of a configuration.
use Rattle.std.specs.Prelude.{All, ℕ, ◌≡◌, ◌<◌, ◌^◌, Bool, true, false, List, [], ◌∷◌, ◌++◌, length}
use Rattle.std.specs.List.{flat_map}
use Rattle.std.specs.Int.{w16, w32, to_le_bytes}
use Rattle.scm_model.specs.declared.flat.Action.{Action}
use Rattle.scm_model.specs.declared.flat.Config.{Config}
use Rattle.scm_model.specs.declared.flat.Need.{Need}
use Rattle.scm_model.specs.declared.flat.Need.TheVariants as needs
use Rattle.scm_model.specs.declared.flat.Trigger.{Trigger}

abbrev pub number : ℕ → List ℕ
number n = to_le_bytes w32 n

abbrev pub flag : Bool → List ℕ
flag false = 0 ∷ []
flag true = 1 ∷ []

-- a count of units, and these
abbrev pub text : List ℕ → List ℕ
text units = number (length units) ++ flat_map (to_le_bytes w16) units

-- whether a group is needed, and the name
abbrev pub need_bytes : Need → List ℕ
need_bytes (needs.Service name) = flag false ++ text name
need_bytes (needs.Group name) = flag true ++ text name

abbrev pub action : Action → List ℕ
action a = number a.what ++ number a.delay

-- a count, and the items
abbrev pub counted_items : {A : Type 0} → (A → List ℕ) → List A → List ℕ
counted_items spell items = number (length items) ++ flat_map spell items

abbrev pub front : Config → List ℕ
front config = text config.name ++ text config.display ++ number config.kind ++ number config.start ++ number config.error
    ++ text config.path

abbrev pub middle : Config → List ℕ
middle config = text config.group ++ number config.tag ++ counted_items need_bytes config.needs ++ text config.description

abbrev pub back : Config → List ℕ
back config = number config.reset ++ counted_items action config.actions ++ text config.command ++ flag config.on_exit

-- the action, and the 16 bytes of the subtype
abbrev pub trigger_bytes : Trigger → List ℕ
trigger_bytes trigger = number trigger.action ++ trigger.subtype

-- whether the start is delayed, and the triggers
abbrev pub end : Config → List ℕ
end config = flag config.delayed ++ counted_items trigger_bytes config.triggers

-- the bytes of a configuration in form 1, which holds no delayed start and no triggers
abbrev pub encoding_1 : Config → List ℕ
encoding_1 config = front config ++ middle config ++ back config

-- the bytes of a configuration in form 2, which holds all of it
abbrev pub encoding : Config → List ℕ
encoding config = encoding_1 config ++ end config

-- ## What has an encoding

abbrev pub FitsNumber : ℕ → Type 0
FitsNumber n = n < 2 ^ 32

abbrev pub IsUnit : ℕ → Type 0
IsUnit u = (0 < u) × (u < 2 ^ 16)

abbrev pub FitsText : List ℕ → Type 0
FitsText units = FitsNumber (length units) × All IsUnit units

abbrev pub IsNeed : Need → Type 0
IsNeed (needs.Service name) = FitsText name
IsNeed (needs.Group name) = FitsText name

abbrev pub IsAction : Action → Type 0
IsAction a = FitsNumber a.what × FitsNumber a.delay

abbrev pub IsSubtype : List ℕ → Type 0
IsSubtype subtype = length subtype ≡ 16

abbrev pub IsTrigger : Trigger → Type 0
IsTrigger trigger = FitsNumber trigger.action × IsSubtype trigger.subtype

abbrev pub AreItems : {A : Type 0} → (A → Type 0) → List A → Type 0
AreItems Is items = FitsNumber (length items) × All Is items

pub record FitsFront (config : Config) : Type 0 where
  pub name : FitsText config.name
  pub display : FitsText config.display
  pub kind : FitsNumber config.kind
  pub start : FitsNumber config.start
  pub error : FitsNumber config.error
  pub path : FitsText config.path

pub record FitsMiddle (config : Config) : Type 0 where
  pub group : FitsText config.group
  pub tag : FitsNumber config.tag
  pub needs : AreItems IsNeed config.needs
  pub description : FitsText config.description

pub record FitsBack (config : Config) : Type 0 where
  pub reset : FitsNumber config.reset
  pub actions : AreItems IsAction config.actions
  pub command : FitsText config.command

pub record FitsEnd (config : Config) : Type 0 where
  pub triggers : AreItems IsTrigger config.triggers

-- what form 1 holds has its bytes
abbrev pub IsConfig_1 : Config → Type 0
IsConfig_1 config = FitsFront config × FitsMiddle config × FitsBack config

-- each number and each text is one, as every value of the type is whose lists are shorter than 2 ^ 32
abbrev pub IsConfig : Config → Type 0
IsConfig config = FitsFront config × FitsMiddle config × FitsBack config × FitsEnd config

-- what form 1 holds of a configuration
abbrev pub held : Config → Config
held config = record config { delayed = false; triggers = [] }
