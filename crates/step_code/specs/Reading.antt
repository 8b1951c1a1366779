-- Reading the code of an entry from left to right. Nothing is read of bytes that no code begins.
use Rattle.std.specs.Prelude.{◌≡◌, ℕ, zero, suc, Bool, true, false, ◌==◌, List, [], ◌∷◌, length, take, drop, Option, None, Some}
use Rattle.std.specs.Prelude.{◌||◌, Result, Ok, Err, nat_lt, if◌then◌else◌}
use Rattle.std.specs.List.{list_any}
use Rattle.std.specs.Int.{w16, w32, w64, from_le_bytes}
use Rattle.scm_model.specs.Entries.{Entry}
use Rattle.scm_model.specs.declared.flat.Action.{Action}
use Rattle.scm_model.specs.declared.flat.Principal.{Principal}
use Rattle.scm_model.specs.declared.flat.Principal.TheVariants as principals
use Rattle.scm_model.specs.declared.flat.Status.{Status}
use Rattle.scm_model.specs.declared.calls.Info.{Info}
use Rattle.scm_model.specs.declared.calls.Info.TheVariants as info
use Rattle.scm_model.specs.declared.calls.Request.{Request}
use Rattle.scm_model.specs.declared.calls.Request.TheVariants as request
use Rattle.scm_model.specs.declared.calls.TriggerIn.{TriggerIn}
use Rattle.scm_model.specs.declared.steps.Kept.{Kept}
use Rattle.scm_model.specs.declared.steps.Kept.TheVariants as keeps
use Rattle.scm_model.specs.declared.steps.Step.{Step}
use Rattle.scm_model.specs.declared.steps.Step.TheVariants as steps
use Rattle.scm_model.specs.declared.codes.TheConstants.{R_CHANGE_SERVICE_CONFIG2_W, R_CHANGE_SERVICE_CONFIG_W, R_CLOSE_NOTIFY_HANDLE}
use Rattle.scm_model.specs.declared.codes.TheConstants.{R_CLOSE_SERVICE_HANDLE, R_CONTROL_SERVICE, R_CREATE_SERVICE_W, R_DELETE_SERVICE}
use Rattle.scm_model.specs.declared.codes.TheConstants.{R_ENUM_DEPENDENT_SERVICES_W, R_ENUM_SERVICES_STATUS_W, R_GET_NOTIFY_RESULTS}
use Rattle.scm_model.specs.declared.codes.TheConstants.{R_GET_SERVICE_DISPLAY_NAME_W, R_GET_SERVICE_KEY_NAME_W, R_LOCK_SERVICE_DATABASE}
use Rattle.scm_model.specs.declared.codes.TheConstants.{R_NOTIFY_SERVICE_STATUS_CHANGE, R_OPEN_SC_MANAGER_W, R_OPEN_SERVICE_W}
use Rattle.scm_model.specs.declared.codes.TheConstants.{R_QUERY_SERVICE_CONFIG2_W, R_QUERY_SERVICE_CONFIG_W, R_QUERY_SERVICE_LOCK_STATUS_W}
use Rattle.scm_model.specs.declared.codes.TheConstants.{R_QUERY_SERVICE_OBJECT_SECURITY, R_QUERY_SERVICE_STATUS, R_QUERY_SERVICE_STATUS_EX}
use Rattle.scm_model.specs.declared.codes.TheConstants.{R_SET_SERVICE_OBJECT_SECURITY, R_SET_SERVICE_STATUS, R_START_SERVICE_W}
use Rattle.scm_model.specs.declared.codes.TheConstants.{R_UNLOCK_SERVICE_DATABASE}
use Rattle.step_code.specs.declared.fields_read.Stop.{Stop}
use Rattle.step_code.specs.declared.fields_read.Stop.TheVariants as stops
use Rattle.step_code.specs.declared.requests_read.Common.{Common}

-- what is read is a value and the bytes after it
abbrev pub Item : Type 0 → Type 0
Item A = Option (A × List ℕ)

infixl 10 ◌>>=◌
abbrev pub ◌>>=◌ : {A B : Type 0} → Option A → (A → Option B) → Option B
None >>= f = None
(Some x) >>= f = f x

-- what a function returned is what reading gives, unless memory ran out
abbrev pub StopsAs : {Y : Type 0} → Stop → Option Y → Type 0
StopsAs stops.NoCode read = read ≡ None
StopsAs stops.OutOfMemory read = Unit {0}

abbrev pub Yields : {X Y : Type 0} → (X → Y) → Result X Stop → Option Y → Type 0
Yields view (Ok x) read = read ≡ Some (view x)
Yields view (Err e) read = StopsAs e read

-- ## Fields

unfoldable pub n2_at : List ℕ → Item ℕ
n2_at bytes = if nat_lt (length bytes) 2 then None else Some (from_le_bytes w16 (take 2 bytes), drop 2 bytes)

unfoldable pub n4_at : List ℕ → Item ℕ
n4_at bytes = if nat_lt (length bytes) 4 then None else Some (from_le_bytes w32 (take 4 bytes), drop 4 bytes)

unfoldable pub n8_at : List ℕ → Item ℕ
n8_at bytes = if nat_lt (length bytes) 8 then None else Some (from_le_bytes w64 (take 8 bytes), drop 8 bytes)

unfoldable pub byte_at : List ℕ → Item ℕ
byte_at [] = None
byte_at (b ∷ rest) = Some (b, rest)

-- a byte that is 0 or 1
unfoldable pub flag_at : List ℕ → Item Bool
flag_at [] = None
flag_at (zero ∷ rest) = Some (false, rest)
flag_at (suc zero ∷ rest) = Some (true, rest)
flag_at (suc (suc b) ∷ rest) = None

-- a flag, and the value if it is 1
unfoldable pub some_at : {A : Type 0} → (List ℕ → Item A) → List ℕ → Item (Option A)
some_at value_at bytes = do
  present ← flag_at bytes
  if present.0 then (value_at present.1 >>= λ x. Some (Some x.0, x.1)) else Some (None, present.1)

-- so many items one after another
unfoldable pub items_at : {A : Type 0} → (List ℕ → Item A) → ℕ → List ℕ → Item (List A)
items_at item_at zero bytes = Some ([], bytes)
items_at item_at (suc n) bytes = do
  first ← item_at bytes
  others ← items_at item_at n first.1
  Some (first.0 ∷ others.0, others.1)

-- a count, and so many items
unfoldable pub list_at : {A : Type 0} → (List ℕ → Item A) → List ℕ → Item (List A)
list_at item_at bytes = do
  count ← n4_at bytes
  items_at item_at count.0 count.1

-- a text, which has no unit that is 0
unfoldable pub text_at : List ℕ → Item (List ℕ)
text_at bytes = do
  units ← list_at n2_at bytes
  if list_any (λ u. u == 0) units.0 then None else Some units

unfoldable pub byte_list_at : List ℕ → Item (List ℕ)
byte_list_at bytes = do
  count ← n4_at bytes
  if nat_lt (length count.1) count.0 then None else Some (take count.0 count.1, drop count.0 count.1)

unfoldable pub subtype_at : List ℕ → Item (List ℕ)
subtype_at bytes = if nat_lt (length bytes) 16 then None else Some (take 16 bytes, drop 16 bytes)

unfoldable pub status_at : List ℕ → Item Status
status_at bytes = do
  kind ← n4_at bytes
  state ← n4_at kind.1
  accepted ← n4_at state.1
  win32 ← n4_at accepted.1
  specific ← n4_at win32.1
  checkpoint ← n4_at specific.1
  hint ← n4_at checkpoint.1
  Some (
    record {
      kind = kind.0;
      state = state.0;
      accepted = accepted.0;
      win32 = win32.0;
      specific = specific.0;
      checkpoint = checkpoint.0;
      hint = hint.0;
    },
    hint.1,
  )

unfoldable pub action_at : List ℕ → Item Action
action_at bytes = do
  what ← n4_at bytes
  delay ← n4_at what.1
  Some (record { what = what.0; delay = delay.0 }, delay.1)

unfoldable pub trigger_at : List ℕ → Item TriggerIn
trigger_at bytes = do
  kind ← n4_at bytes
  action ← n4_at kind.1
  subtype ← some_at subtype_at action.1
  items ← n4_at subtype.1
  Some (record { kind = kind.0; action = action.0; subtype = subtype.0; items = items.0 }, items.1)

-- ## Requests

unfoldable pub failure_at : List ℕ → Item Info
failure_at bytes = do
  reset ← n4_at bytes
  command ← some_at text_at reset.1
  actions ← some_at (list_at action_at) command.1
  Some (info.Failure reset.0 command.0 actions.0, actions.1)

abbrev pub info_of : ℕ → List ℕ → Item Info
info_of level bytes =
    if level == 0 then (some_at text_at bytes >>= λ x. Some (info.Description x.0, x.1))
    else if level == 1 then failure_at bytes
    else if level == 2 then (flag_at bytes >>= λ x. Some (info.Delayed x.0, x.1))
    else if level == 3 then (flag_at bytes >>= λ x. Some (info.OnExit x.0, x.1))
    else if level == 4 then (list_at trigger_at bytes >>= λ x. Some (info.Triggers x.0, x.1))
    else if level == 5 then (n4_at bytes >>= λ x. Some (info.Other x.0, x.1))
    else if level == 6 then (n4_at bytes >>= λ x. Some (info.Nothing x.0, x.1))
    else None

unfoldable pub info_at : List ℕ → Item Info
info_at bytes = do
  level ← byte_at bytes
  info_of level.0 level.1

unfoldable pub common_at : List ℕ → Item Common
common_at bytes = do
  group ← some_at text_at bytes
  tag ← some_at n4_at group.1
  needs ← some_at byte_list_at tag.1
  account ← some_at text_at needs.1
  Some (record { group = group.0; tag = tag.0; needs = needs.0; account = account.0 }, account.1)

unfoldable pub change_at : List ℕ → Item Request
change_at bytes = do
  handle ← n8_at bytes
  kind ← n4_at handle.1
  start ← n4_at kind.1
  error ← n4_at start.1
  path ← some_at text_at error.1
  common ← common_at path.1
  display ← some_at text_at common.1
  Some (
    request.Change (record {
      handle = handle.0;
      kind = kind.0;
      start = start.0;
      error = error.0;
      path = path.0;
      group = common.0.group;
      tag = common.0.tag;
      needs = common.0.needs;
      account = common.0.account;
      display = display.0;
    }),
    display.1,
  )

unfoldable pub create_at : List ℕ → Item Request
create_at bytes = do
  handle ← n8_at bytes
  name ← text_at handle.1
  display ← some_at text_at name.1
  access ← n4_at display.1
  kind ← n4_at access.1
  start ← n4_at kind.1
  error ← n4_at start.1
  path ← text_at error.1
  common ← common_at path.1
  Some (
    request.Create (record {
      handle = handle.0;
      name = name.0;
      display = display.0;
      access = access.0;
      kind = kind.0;
      start = start.0;
      error = error.0;
      path = path.0;
      group = common.0.group;
      tag = common.0.tag;
      needs = common.0.needs;
      account = common.0.account;
    }),
    common.1,
  )

unfoldable pub set_security_at : List ℕ → Item Request
set_security_at bytes = do
  handle ← n8_at bytes
  parts ← n4_at handle.1
  descriptor ← byte_list_at parts.1
  Some (request.SetSecurity handle.0 parts.0 descriptor.0, descriptor.1)

unfoldable pub set_status_at : List ℕ → Item Request
set_status_at bytes = do
  handle ← n8_at bytes
  status ← status_at handle.1
  Some (request.SetStatus handle.0 status.0, status.1)

unfoldable pub enum_services_at : List ℕ → Item Request
enum_services_at bytes = do
  handle ← n8_at bytes
  kinds ← n4_at handle.1
  states ← n4_at kinds.1
  size ← n4_at states.1
  resume ← some_at n4_at size.1
  Some (request.EnumServices handle.0 kinds.0 states.0 size.0 resume.0, resume.1)

unfoldable pub open_manager_at : List ℕ → Item Request
open_manager_at bytes = do
  database ← some_at text_at bytes
  access ← n4_at database.1
  Some (request.OpenManager database.0 access.0, access.1)

unfoldable pub start_at : List ℕ → Item Request
start_at bytes = do
  handle ← n8_at bytes
  words ← some_at (list_at text_at) handle.1
  Some (request.Start handle.0 words.0, words.1)

unfoldable pub change2_at : List ℕ → Item Request
change2_at bytes = do
  handle ← n8_at bytes
  asked ← info_at handle.1
  Some (request.Change2 handle.0 asked.0, asked.1)

-- the requests of a handle, a name and a number
abbrev pub by_name : ℕ → ℕ → List ℕ → ℕ → Option Request
by_name opnum handle name number =
    if opnum == R_OPEN_SERVICE_W then Some (request.OpenService handle name number)
    else if opnum == R_GET_SERVICE_DISPLAY_NAME_W then Some (request.DisplayName handle name number)
    else if opnum == R_GET_SERVICE_KEY_NAME_W then Some (request.KeyName handle name number)
    else None

unfoldable pub named_at : ℕ → List ℕ → Item Request
named_at opnum bytes = do
  handle ← n8_at bytes
  name ← text_at handle.1
  number ← n4_at name.1
  asked ← by_name opnum handle.0 name.0 number.0
  Some (asked, number.1)

-- of a handle and two numbers
abbrev pub by_numbers : ℕ → ℕ → ℕ → ℕ → Option Request
by_numbers opnum handle first second =
    if opnum == R_QUERY_SERVICE_OBJECT_SECURITY then Some (request.QuerySecurity handle first second)
    else if opnum == R_ENUM_DEPENDENT_SERVICES_W then Some (request.EnumDependents handle first second)
    else if opnum == R_QUERY_SERVICE_CONFIG2_W then Some (request.QueryConfig2 handle first second)
    else if opnum == R_QUERY_SERVICE_STATUS_EX then Some (request.QueryStatusEx handle first second)
    else None

unfoldable pub numbers_at : ℕ → List ℕ → Item Request
numbers_at opnum bytes = do
  handle ← n8_at bytes
  first ← n4_at handle.1
  second ← n4_at first.1
  asked ← by_numbers opnum handle.0 first.0 second.0
  Some (asked, second.1)

-- of a handle and a number
abbrev pub by_number : ℕ → ℕ → ℕ → Option Request
by_number opnum handle number =
    if opnum == R_CONTROL_SERVICE then Some (request.Control handle number)
    else if opnum == R_QUERY_SERVICE_CONFIG_W then Some (request.QueryConfig handle number)
    else if opnum == R_QUERY_SERVICE_LOCK_STATUS_W then Some (request.QueryLock handle number)
    else if opnum == R_NOTIFY_SERVICE_STATUS_CHANGE then Some (request.Notify handle number)
    else None

unfoldable pub number_at : ℕ → List ℕ → Item Request
number_at opnum bytes = do
  handle ← n8_at bytes
  number ← n4_at handle.1
  asked ← by_number opnum handle.0 number.0
  Some (asked, number.1)

-- of a handle alone
abbrev pub by_handle : ℕ → ℕ → Option Request
by_handle opnum handle =
    if opnum == R_CLOSE_SERVICE_HANDLE then Some (request.Close handle)
    else if opnum == R_DELETE_SERVICE then Some (request.Delete handle)
    else if opnum == R_LOCK_SERVICE_DATABASE then Some (request.Lock handle)
    else if opnum == R_QUERY_SERVICE_STATUS then Some (request.QueryStatus handle)
    else if opnum == R_UNLOCK_SERVICE_DATABASE then Some (request.Unlock handle)
    else if opnum == R_GET_NOTIFY_RESULTS then Some (request.GetNotify handle)
    else if opnum == R_CLOSE_NOTIFY_HANDLE then Some (request.CloseNotify handle)
    else None

unfoldable pub handle_at : ℕ → List ℕ → Item Request
handle_at opnum bytes = do
  handle ← n8_at bytes
  asked ← by_handle opnum handle.0
  Some (asked, handle.1)

abbrev pub is_named : ℕ → Bool
is_named opnum = opnum == R_OPEN_SERVICE_W || opnum == R_GET_SERVICE_DISPLAY_NAME_W || opnum == R_GET_SERVICE_KEY_NAME_W

abbrev pub has_number : ℕ → Bool
has_number opnum =
    opnum == R_CONTROL_SERVICE || opnum == R_QUERY_SERVICE_CONFIG_W || opnum == R_QUERY_SERVICE_LOCK_STATUS_W
    || opnum == R_NOTIFY_SERVICE_STATUS_CHANGE

abbrev pub has_numbers : ℕ → Bool
has_numbers opnum =
    opnum == R_QUERY_SERVICE_OBJECT_SECURITY || opnum == R_ENUM_DEPENDENT_SERVICES_W || opnum == R_QUERY_SERVICE_CONFIG2_W
    || opnum == R_QUERY_SERVICE_STATUS_EX

-- the fields of an opnum's request
abbrev pub plain_fields_at : ℕ → List ℕ → Item Request
plain_fields_at opnum bytes =
    if is_named opnum then named_at opnum bytes
    else if has_number opnum then number_at opnum bytes
    else if has_numbers opnum then numbers_at opnum bytes
    else handle_at opnum bytes

abbrev pub fields_at : ℕ → List ℕ → Item Request
fields_at opnum bytes =
    if opnum == R_SET_SERVICE_OBJECT_SECURITY then set_security_at bytes
    else if opnum == R_SET_SERVICE_STATUS then set_status_at bytes
    else if opnum == R_CHANGE_SERVICE_CONFIG_W then change_at bytes
    else if opnum == R_CREATE_SERVICE_W then create_at bytes
    else if opnum == R_ENUM_SERVICES_STATUS_W then enum_services_at bytes
    else if opnum == R_OPEN_SC_MANAGER_W then open_manager_at bytes
    else if opnum == R_START_SERVICE_W then start_at bytes
    else if opnum == R_CHANGE_SERVICE_CONFIG2_W then change2_at bytes
    else plain_fields_at opnum bytes

unfoldable pub request_at : List ℕ → Item Request
request_at bytes = do
  opnum ← n2_at bytes
  fields_at opnum.0 opnum.1

-- ## Steps

abbrev pub principal_of : ℕ → Option Principal
principal_of byte = if byte == 0 then Some principals.Admin else if byte == 1 then Some principals.User else None

abbrev pub kept_of : ℕ → Option Kept
kept_of byte =
    if byte == 0 then Some keeps.NotAsked else if byte == 1 then Some keeps.Kept else if byte == 2 then Some keeps.Failed else None

unfoldable pub joined_at : List ℕ → Item Step
joined_at bytes = do
  byte ← byte_at bytes
  principal ← principal_of byte.0
  Some (steps.Joined principal, byte.1)

unfoldable pub kept_at : List ℕ → Item Kept
kept_at bytes = do
  byte ← byte_at bytes
  append ← kept_of byte.0
  Some (append, byte.1)

unfoldable pub call_at : List ℕ → Item Step
call_at bytes = do
  caller ← n8_at bytes
  asked ← request_at caller.1
  append ← kept_at asked.1
  Some (steps.Call caller.0 asked.0 append.0, append.1)

unfoldable pub end_start_at : List ℕ → Item Step
end_start_at bytes = do
  caller ← n8_at bytes
  plan ← n8_at caller.1
  Some (steps.EndStart caller.0 plan.0, plan.1)

unfoldable pub launched_at : List ℕ → Item Step
launched_at bytes = do
  process ← n8_at bytes
  pid ← n4_at process.1
  Some (steps.Launched process.0 pid.0, pid.1)

unfoldable pub launch_failed_at : List ℕ → Item Step
launch_failed_at bytes = do
  process ← n8_at bytes
  code ← n4_at process.1
  Some (steps.LaunchFailed process.0 code.0, code.1)

unfoldable pub report_at : List ℕ → Item Step
report_at bytes = do
  process ← n8_at bytes
  service ← n8_at process.1
  status ← status_at service.1
  Some (steps.Report process.0 service.0 status.0, status.1)

unfoldable pub raised_at : List ℕ → Item Step
raised_at bytes = do
  caller ← n8_at bytes
  subtype ← subtype_at caller.1
  Some (steps.Raised caller.0 subtype.0, subtype.1)

-- the steps of a number alone
abbrev pub step_of : ℕ → ℕ → Option Step
step_of kind number =
    if kind == 7 then Some (steps.Ended number)
    else if kind == 8 then Some (steps.ControlTaken number)
    else if kind == 11 then Some (steps.Gone number)
    else if kind == 12 then Some (steps.NoMemory number)
    else None

unfoldable pub numbered_at : ℕ → List ℕ → Item Step
numbered_at kind bytes = do
  number ← n8_at bytes
  step ← step_of kind number.0
  Some (step, number.1)

abbrev pub step_by : ℕ → List ℕ → Item Step
step_by kind bytes =
    if kind == 0 then joined_at bytes
    else if kind == 1 then call_at bytes
    else if kind == 2 then end_start_at bytes
    else if kind == 3 then Some (steps.LaunchTaken, bytes)
    else if kind == 4 then launched_at bytes
    else if kind == 5 then launch_failed_at bytes
    else if kind == 6 then report_at bytes
    else if kind == 9 then Some (steps.Tick, bytes)
    else if kind == 10 then raised_at bytes
    else numbered_at kind bytes

unfoldable pub step_at : List ℕ → Item Step
step_at bytes = do
  kind ← byte_at bytes
  step_by kind.0 kind.1

-- the entry that the bytes begin with
unfoldable pub entry_at : List ℕ → Item Entry
entry_at bytes = do
  moment ← n8_at bytes
  step ← step_at moment.1
  Some ((moment.0, step.0), step.1)
