-- What has a code: each number is within its width, no text has a unit that is 0, and each list has fewer than 2 ^ 32 items. A value
-- of the program's types has one if its lists are that short.
use Rattle.std.specs.Prelude.{ℕ, All, ◌≡◌, ◌<◌, ◌^◌, List, length, Option, None, Some}
use Rattle.scm_model.specs.Entries.{Entry}
use Rattle.scm_model.specs.declared.flat.Action.{Action}
use Rattle.scm_model.specs.declared.flat.Status.{Status}
use Rattle.scm_model.specs.declared.calls.ChangeService.{ChangeService}
use Rattle.scm_model.specs.declared.calls.Info.{Info}
use Rattle.scm_model.specs.declared.calls.Info.TheVariants as info
use Rattle.scm_model.specs.declared.calls.NewService.{NewService}
use Rattle.scm_model.specs.declared.calls.Request.{Request}
use Rattle.scm_model.specs.declared.calls.Request.TheVariants as request
use Rattle.scm_model.specs.declared.calls.TriggerIn.{TriggerIn}
use Rattle.scm_model.specs.declared.steps.Step.{Step}
use Rattle.scm_model.specs.declared.steps.Step.TheVariants as step

abbrev pub Is4 : ℕ → Type 0
Is4 n = n < 2 ^ 32

abbrev pub Is8 : ℕ → Type 0
Is8 n = n < 2 ^ 64

abbrev pub IsUnit : ℕ → Type 0
IsUnit u = (0 < u) × (u < 2 ^ 16)

abbrev pub IsAbsentOr : {A : Type 0} → (A → Type 0) → Option A → Type 0
IsAbsentOr Is None = Unit {0}
IsAbsentOr Is (Some x) = Is x

abbrev pub AreItems : {A : Type 0} → (A → Type 0) → List A → Type 0
AreItems Is items = Is4 (length items) × All Is items

abbrev pub IsText : List ℕ → Type 0
IsText = AreItems IsUnit

abbrev pub IsByteList : List ℕ → Type 0
IsByteList bytes = Is4 (length bytes)

abbrev pub IsSubtype : List ℕ → Type 0
IsSubtype bytes = length bytes ≡ 16

pub record IsStatus (s : Status) : Type 0 where
  pub kind : Is4 s.kind
  pub state : Is4 s.state
  pub accepted : Is4 s.accepted
  pub win32 : Is4 s.win32
  pub specific : Is4 s.specific
  pub checkpoint : Is4 s.checkpoint
  pub hint : Is4 s.hint

abbrev pub IsAction : Action → Type 0
IsAction a = Is4 a.what × Is4 a.delay

pub record IsTrigger (t : TriggerIn) : Type 0 where
  pub kind : Is4 t.kind
  pub action : Is4 t.action
  pub subtype : IsAbsentOr IsSubtype t.subtype
  pub items : Is4 t.items

abbrev pub IsInfo : Info → Type 0
IsInfo (info.Description asked) = IsAbsentOr IsText asked
IsInfo (info.Failure reset command actions) = Is4 reset × IsAbsentOr IsText command × IsAbsentOr (AreItems IsAction) actions
IsInfo (info.Delayed on) = Unit {0}
IsInfo (info.OnExit on) = Unit {0}
IsInfo (info.Triggers triggers) = AreItems IsTrigger triggers
IsInfo (info.Other level) = Is4 level
IsInfo (info.Nothing level) = Is4 level

pub record IsChange (c : ChangeService) : Type 0 where
  pub handle : Is8 c.handle
  pub kind : Is4 c.kind
  pub start : Is4 c.start
  pub error : Is4 c.error
  pub path : IsAbsentOr IsText c.path
  pub group : IsAbsentOr IsText c.group
  pub tag : IsAbsentOr Is4 c.tag
  pub needs : IsAbsentOr IsByteList c.needs
  pub account : IsAbsentOr IsText c.account
  pub display : IsAbsentOr IsText c.display

pub record IsNew (c : NewService) : Type 0 where
  pub handle : Is8 c.handle
  pub name : IsText c.name
  pub display : IsAbsentOr IsText c.display
  pub access : Is4 c.access
  pub kind : Is4 c.kind
  pub start : Is4 c.start
  pub error : Is4 c.error
  pub path : IsText c.path
  pub group : IsAbsentOr IsText c.group
  pub tag : IsAbsentOr Is4 c.tag
  pub needs : IsAbsentOr IsByteList c.needs
  pub account : IsAbsentOr IsText c.account

abbrev pub IsRequest : Request → Type 0
IsRequest (request.Close handle) = Is8 handle
IsRequest (request.Control handle control) = Is8 handle × Is4 control
IsRequest (request.Delete handle) = Is8 handle
IsRequest (request.Lock handle) = Is8 handle
IsRequest (request.QuerySecurity handle parts size) = Is8 handle × Is4 parts × Is4 size
IsRequest (request.SetSecurity handle parts bytes) = Is8 handle × Is4 parts × IsByteList bytes
IsRequest (request.QueryStatus handle) = Is8 handle
IsRequest (request.SetStatus handle asked) = Is8 handle × IsStatus asked
IsRequest (request.Unlock handle) = Is8 handle
IsRequest (request.Change asked) = IsChange asked
IsRequest (request.Create asked) = IsNew asked
IsRequest (request.EnumDependents handle states size) = Is8 handle × Is4 states × Is4 size
IsRequest (request.EnumServices handle kinds states size resume) = Is8 handle × Is4 kinds × Is4 states × Is4 size × IsAbsentOr Is4 resume
IsRequest (request.OpenManager database access) = IsAbsentOr IsText database × Is4 access
IsRequest (request.OpenService handle name access) = Is8 handle × IsText name × Is4 access
IsRequest (request.QueryConfig handle size) = Is8 handle × Is4 size
IsRequest (request.QueryLock handle size) = Is8 handle × Is4 size
IsRequest (request.Start handle words) = Is8 handle × IsAbsentOr (AreItems IsText) words
IsRequest (request.DisplayName handle name size) = Is8 handle × IsText name × Is4 size
IsRequest (request.KeyName handle name size) = Is8 handle × IsText name × Is4 size
IsRequest (request.Change2 handle asked) = Is8 handle × IsInfo asked
IsRequest (request.QueryConfig2 handle level size) = Is8 handle × Is4 level × Is4 size
IsRequest (request.QueryStatusEx handle level size) = Is8 handle × Is4 level × Is4 size
IsRequest (request.Notify handle mask) = Is8 handle × Is4 mask
IsRequest (request.GetNotify handle) = Is8 handle
IsRequest (request.CloseNotify handle) = Is8 handle

abbrev pub HasCode : Step → Type 0
HasCode (step.Joined by) = Unit {0}
HasCode (step.Call caller asked append) = Is8 caller × IsRequest asked
HasCode (step.EndStart caller plan) = Is8 caller × Is8 plan
HasCode step.LaunchTaken = Unit {0}
HasCode (step.Launched process pid) = Is8 process × Is4 pid
HasCode (step.LaunchFailed process code) = Is8 process × Is4 code
HasCode (step.Report process service reported) = Is8 process × Is8 service × IsStatus reported
HasCode (step.Ended process) = Is8 process
HasCode (step.ControlTaken process) = Is8 process
HasCode step.Tick = Unit {0}
HasCode (step.Raised caller id) = Is8 caller × IsSubtype id
HasCode (step.Gone caller) = Is8 caller
HasCode (step.NoMemory caller) = Is8 caller

abbrev pub IsEntry : Entry → Type 0
IsEntry entry = Is8 entry.0 × HasCode entry.1
