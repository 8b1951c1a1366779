-- The code of a history's entry: its moment and its step as bytes. Numbers are little endian.
use Rattle.std.specs.Prelude.{ℕ, Bool, true, false, List, [], ◌∷◌, ◌++◌, length, Option, None, Some}
use Rattle.std.specs.Int.{w16, w32, w64, to_le_bytes}
use Rattle.std.specs.List.{flat_map}
use Rattle.scm_model.specs.Entries.{Entry}
use Rattle.scm_model.specs.declared.flat.Action.{Action}
use Rattle.scm_model.specs.declared.flat.Principal.{Principal}
use Rattle.scm_model.specs.declared.flat.Principal.TheVariants as principals
use Rattle.scm_model.specs.declared.flat.Status.{Status}
use Rattle.scm_model.specs.declared.calls.ChangeService.{ChangeService}
use Rattle.scm_model.specs.declared.calls.Info.{Info}
use Rattle.scm_model.specs.declared.calls.Info.TheVariants as info
use Rattle.scm_model.specs.declared.calls.NewService.{NewService}
use Rattle.scm_model.specs.declared.calls.Request.{Request}
use Rattle.scm_model.specs.declared.calls.Request.TheVariants as request
use Rattle.scm_model.specs.declared.calls.TriggerIn.{TriggerIn}
use Rattle.scm_model.specs.declared.steps.Kept.{Kept}
use Rattle.scm_model.specs.declared.steps.Kept.TheVariants as keeps
use Rattle.scm_model.specs.declared.steps.Step.{Step}
use Rattle.scm_model.specs.declared.steps.Step.TheVariants as step
use Rattle.scm_model.specs.Opnums.{opnum}

-- ## Fields

-- numbers in two, four and eight bytes
abbrev pub n2 : ℕ → List ℕ
n2 = to_le_bytes w16

abbrev pub n4 : ℕ → List ℕ
n4 = to_le_bytes w32

abbrev pub n8 : ℕ → List ℕ
n8 = to_le_bytes w64

abbrev pub flag : Bool → List ℕ
flag false = 0 ∷ []
flag true = 1 ∷ []

-- a flag, and the value if there is one
abbrev pub some : {A : Type 0} → (A → List ℕ) → Option A → List ℕ
some code None = flag false
some code (Some x) = flag true ++ code x

-- a count, and the items
abbrev pub list : {A : Type 0} → (A → List ℕ) → List A → List ℕ
list code items = n4 (length items) ++ flat_map code items

-- a text, by its units
abbrev pub text : List ℕ → List ℕ
text = list n2

abbrev pub byte_list : List ℕ → List ℕ
byte_list bytes = n4 (length bytes) ++ bytes

-- the 16 bytes as they are
abbrev pub subtype : List ℕ → List ℕ
subtype bytes = bytes

-- fields one after another
abbrev pub joined : List (List ℕ) → List ℕ
joined [] = []
joined (field ∷ fields) = field ++ joined fields

abbrev pub status : Status → List ℕ
status s = joined (
    n4 s.kind ∷ n4 s.state ∷ n4 s.accepted ∷ n4 s.win32 ∷ n4 s.specific ∷ n4 s.checkpoint ∷ n4 s.hint ∷ [])

abbrev pub action : Action → List ℕ
action a = joined (n4 a.what ∷ n4 a.delay ∷ [])

abbrev pub trigger : TriggerIn → List ℕ
trigger t = joined (n4 t.kind ∷ n4 t.action ∷ some subtype t.subtype ∷ n4 t.items ∷ [])

-- ## Requests

abbrev pub info_code : Info → List ℕ
info_code (info.Description asked) = 0 ∷ some text asked
info_code (info.Failure reset command actions) = 1 ∷ joined (n4 reset ∷ some text command ∷ some (list action) actions ∷ [])
info_code (info.Delayed on) = 2 ∷ flag on
info_code (info.OnExit on) = 3 ∷ flag on
info_code (info.Triggers triggers) = 4 ∷ list trigger triggers
info_code (info.Other level) = 5 ∷ n4 level
info_code (info.Nothing level) = 6 ∷ n4 level

-- what a creation and a change have in common: group, tag, needs and account
abbrev pub common_code : Option (List ℕ) → Option ℕ → Option (List ℕ) → Option (List ℕ) → List ℕ
common_code group tag needs account = joined (some text group ∷ some n4 tag ∷ some byte_list needs ∷ some text account ∷ [])

abbrev pub change_code : ChangeService → List ℕ
change_code c = joined (
    n8 c.handle ∷ n4 c.kind ∷ n4 c.start ∷ n4 c.error ∷ some text c.path ∷ common_code c.group c.tag c.needs c.account
    ∷ some text c.display ∷ [])

abbrev pub create_code : NewService → List ℕ
create_code c = joined (
    n8 c.handle ∷ text c.name ∷ some text c.display ∷ n4 c.access ∷ n4 c.kind ∷ n4 c.start ∷ n4 c.error ∷ text c.path
    ∷ common_code c.group c.tag c.needs c.account ∷ [])

-- the fields of a request, in order
abbrev pub fields : Request → List ℕ
fields (request.Close handle) = n8 handle
fields (request.Control handle control) = joined (n8 handle ∷ n4 control ∷ [])
fields (request.Delete handle) = n8 handle
fields (request.Lock handle) = n8 handle
fields (request.QuerySecurity handle parts size) = joined (n8 handle ∷ n4 parts ∷ n4 size ∷ [])
fields (request.SetSecurity handle parts bytes) = joined (n8 handle ∷ n4 parts ∷ byte_list bytes ∷ [])
fields (request.QueryStatus handle) = n8 handle
fields (request.SetStatus handle asked) = joined (n8 handle ∷ status asked ∷ [])
fields (request.Unlock handle) = n8 handle
fields (request.Change asked) = change_code asked
fields (request.Create asked) = create_code asked
fields (request.EnumDependents handle states size) = joined (n8 handle ∷ n4 states ∷ n4 size ∷ [])
fields (request.EnumServices handle kinds states size resume) = joined (n8 handle ∷ n4 kinds ∷ n4 states ∷ n4 size ∷ some n4 resume ∷ [])
fields (request.OpenManager database access) = joined (some text database ∷ n4 access ∷ [])
fields (request.OpenService handle name access) = joined (n8 handle ∷ text name ∷ n4 access ∷ [])
fields (request.QueryConfig handle size) = joined (n8 handle ∷ n4 size ∷ [])
fields (request.QueryLock handle size) = joined (n8 handle ∷ n4 size ∷ [])
fields (request.Start handle words) = joined (n8 handle ∷ some (list text) words ∷ [])
fields (request.DisplayName handle name size) = joined (n8 handle ∷ text name ∷ n4 size ∷ [])
fields (request.KeyName handle name size) = joined (n8 handle ∷ text name ∷ n4 size ∷ [])
fields (request.Change2 handle asked) = joined (n8 handle ∷ info_code asked ∷ [])
fields (request.QueryConfig2 handle level size) = joined (n8 handle ∷ n4 level ∷ n4 size ∷ [])
fields (request.QueryStatusEx handle level size) = joined (n8 handle ∷ n4 level ∷ n4 size ∷ [])
fields (request.Notify handle mask) = joined (n8 handle ∷ n4 mask ∷ [])
fields (request.GetNotify handle) = n8 handle
fields (request.CloseNotify handle) = n8 handle

abbrev pub request_code : Request → List ℕ
request_code asked = n2 (opnum asked) ++ fields asked

-- ## Steps

abbrev pub principal : Principal → ℕ
principal principals.Admin = 0
principal principals.User = 1

abbrev pub appended : Kept → ℕ
appended keeps.NotAsked = 0
appended keeps.Kept = 1
appended keeps.Failed = 2

abbrev pub step_code : Step → List ℕ
step_code (step.Joined by) = 0 ∷ principal by ∷ []
step_code (step.Call caller asked append) = 1 ∷ joined (n8 caller ∷ request_code asked ∷ (appended append ∷ []) ∷ [])
step_code (step.EndStart caller plan) = 2 ∷ joined (n8 caller ∷ n8 plan ∷ [])
step_code step.LaunchTaken = 3 ∷ []
step_code (step.Launched process pid) = 4 ∷ joined (n8 process ∷ n4 pid ∷ [])
step_code (step.LaunchFailed process code) = 5 ∷ joined (n8 process ∷ n4 code ∷ [])
step_code (step.Report process service reported) = 6 ∷ joined (n8 process ∷ n8 service ∷ status reported ∷ [])
step_code (step.Ended process) = 7 ∷ n8 process
step_code (step.ControlTaken process) = 8 ∷ n8 process
step_code step.Tick = 9 ∷ []
step_code (step.Raised caller id) = 10 ∷ joined (n8 caller ∷ subtype id ∷ [])
step_code (step.Gone caller) = 11 ∷ n8 caller
step_code (step.NoMemory caller) = 12 ∷ n8 caller

-- the code of an entry: the moment, then the step
abbrev pub code_of : Entry → List ℕ
code_of entry = n8 entry.0 ++ step_code entry.1
