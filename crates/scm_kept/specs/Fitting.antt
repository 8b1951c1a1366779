-- Requests that fit their types: each byte has 8 bits, each number 32, and each unit of a text 16 and is not 0.
use Rattle.std.specs.Prelude.{ℕ, ◌<◌, ◌^◌, All, IfSome, List, Option}
use Rattle.std.specs.List.{AllByRecursion}
use Rattle.scm_model.specs.declared.flat.Action.{Action}
use Rattle.scm_model.specs.declared.calls.ChangeService.{ChangeService}
use Rattle.scm_model.specs.declared.calls.Info.{Info}
use Rattle.scm_model.specs.declared.calls.Info.TheVariants as info
use Rattle.scm_model.specs.declared.calls.NewService.{NewService}
use Rattle.scm_model.specs.declared.calls.TriggerIn.{TriggerIn}
use Rattle.scm_model.specs.declared.calls.Request.{Request}
use Rattle.scm_model.specs.declared.calls.Request.TheVariants as request
use Rattle.scm_model.specs.declared.steps.Step.{Step}
use Rattle.scm_model.specs.declared.steps.Step.TheVariants.{Call}
use Rattle.scm_model.specs.Entries.{Entry}
use Rattle.service_record.specs.Spelling.{FitsNumber, IsSubtype, IsUnit}

abbrev pub IsByte : ℕ → Type 0
IsByte byte = byte < 2 ^ 8

abbrev pub AreBytes : List ℕ → Type 0
AreBytes bytes = All IsByte bytes

abbrev pub AreUnits : List ℕ → Type 0
AreUnits units = All IsUnit units

abbrev pub AreBytesIn : Option (List ℕ) → Type 0
AreBytesIn given = IfSome given AreBytes

abbrev pub IsTextIn : Option (List ℕ) → Type 0
IsTextIn given = IfSome given AreUnits

-- ## What a request gives for a configuration

pub record FitsCreation (new : NewService) : Type 0 where
  pub name : AreUnits new.name
  pub display : IsTextIn new.display
  pub path : AreUnits new.path
  pub group : IsTextIn new.group
  pub needs : AreBytesIn new.needs

pub record FitsChange (change : ChangeService) : Type 0 where
  pub display : IsTextIn change.display
  pub path : IsTextIn change.path
  pub group : IsTextIn change.group
  pub needs : AreBytesIn change.needs

abbrev pub FitsDelay : Action → Type 0
FitsDelay action = FitsNumber action.delay

abbrev pub FitsTrigger : TriggerIn → Type 0
FitsTrigger asked = FitsNumber asked.action × IfSome asked.subtype IsSubtype

abbrev pub FitsLevel : Info → Type 0
FitsLevel (info.Description text) = IsTextIn text
FitsLevel (info.Failure reset command actions) = FitsNumber reset × IsTextIn command × IfSome actions (All FitsDelay)
FitsLevel (info.Triggers list) = All FitsTrigger list
FitsLevel asked = Unit {0}

abbrev pub FitsRequest : Request → Type 0
FitsRequest (request.Create new) = FitsCreation new
FitsRequest (request.Change change) = FitsChange change
FitsRequest (request.Change2 handle asked) = FitsLevel asked
FitsRequest asked = Unit {0}

abbrev pub FitsStep : Step → Type 0
FitsStep (Call caller asked append) = FitsRequest asked
FitsStep step = Unit {0}

abbrev pub AllFit : List Entry → Type 0
AllFit es = AllByRecursion (λ (e : Entry). FitsStep e.1) es
