-- What a command asks next.
use Rattle.std.specs.Prelude.{ℕ, ◌+◌, ◌-◌, ◌/◌, ◌%◌, ◌==◌, Bool, true, false, nat_lt, nat_le, ◌&&◌, List, [], ◌∷◌, ◌++◌, length, slice_get}
use Rattle.std.specs.Prelude.{option_map, unwrap_or, Option, None, Some, if◌then◌else◌}
use Rattle.std.specs.List.{flat_map}
use Rattle.scm_model.specs.declared.calls.ChangeService.{ChangeService}
use Rattle.scm_model.specs.declared.calls.NewService.{NewService}
use Rattle.scm_model.specs.declared.calls.Info.TheVariants as info
use Rattle.scm_model.specs.declared.calls.Request.{Request}
use Rattle.scm_model.specs.declared.calls.Reply.TheVariants as reply
use Rattle.scm_model.specs.declared.calls.Request.TheVariants as request
use Rattle.scm_model.specs.declared.codes.TheConstants.{DELETE, MAX_CONFIG_SIZE, MAX_ENUM_SIZE, MAX_LOCK_STATUS_SIZE, SC_MANAGER_CONNECT}
use Rattle.scm_model.specs.declared.codes.TheConstants.{SC_MANAGER_CREATE_SERVICE, SC_MANAGER_ENUMERATE_SERVICE}
use Rattle.scm_model.specs.declared.codes.TheConstants.{SC_MANAGER_QUERY_LOCK_STATUS, SC_STATUS_PROCESS_INFO}
use Rattle.scm_model.specs.declared.codes.TheConstants.{SERVICE_CONFIG_DELAYED_AUTO_START_INFO, SERVICE_CONFIG_DESCRIPTION}
use Rattle.scm_model.specs.declared.codes.TheConstants.{SERVICE_CONFIG_FAILURE_ACTIONS, SERVICE_CONFIG_FAILURE_ACTIONS_FLAG}
use Rattle.scm_model.specs.declared.codes.TheConstants.{SERVICE_CONFIG_TRIGGER_INFO, SERVICE_ENUMERATE_DEPENDENTS, SERVICE_QUERY_CONFIG}
use Rattle.scm_model.specs.declared.codes.TheConstants.{SERVICE_STATE_ALL, SERVICE_WIN32_SHARE_PROCESS, SERVICE_ALL_ACCESS}
use Rattle.scm_model.specs.declared.codes.TheConstants.{SERVICE_AUTO_START, SERVICE_CHANGE_CONFIG, SERVICE_CONTROL_CONTINUE}
use Rattle.scm_model.specs.declared.codes.TheConstants.{SERVICE_CONTROL_INTERROGATE, SERVICE_CONTROL_NETBINDDISABLE}
use Rattle.scm_model.specs.declared.codes.TheConstants.{SERVICE_CONTROL_PARAMCHANGE, SERVICE_CONTROL_PAUSE, SERVICE_CONTROL_STOP}
use Rattle.scm_model.specs.declared.codes.TheConstants.{SERVICE_DEMAND_START, SERVICE_DISABLED, SERVICE_ERROR_NORMAL, SERVICE_INTERROGATE}
use Rattle.scm_model.specs.declared.codes.TheConstants.{SERVICE_NO_CHANGE, SERVICE_PAUSE_CONTINUE, SERVICE_QUERY_STATUS, SERVICE_START}
use Rattle.scm_model.specs.declared.codes.TheConstants.{SERVICE_STOP, SERVICE_USER_DEFINED_CONTROL, SERVICE_WIN32_OWN_PROCESS}
use Rattle.sec_desc.specs.declared.codes.TheConstants.{DACL_SECURITY_INFORMATION, READ_CONTROL}
use Rattle.sc_words.specs.declared.calls.Heard.{Heard}
use Rattle.sc_words.specs.declared.calls.Heard.TheVariants as heard
use Rattle.sc_words.specs.declared.calls.Method.{Method}
use Rattle.sc_words.specs.declared.calls.Method.TheVariants as method
use Rattle.sc_words.specs.declared.command.Command.{Command}
use Rattle.sc_words.specs.declared.command.Level.{Level}
use Rattle.sc_words.specs.declared.command.Level.TheVariants as level
use Rattle.sc_words.specs.declared.command.Task.{Task}
use Rattle.sc_words.specs.declared.command.Task.TheVariants as task
use Rattle.sc_words.specs.declared.settings.Settings.{Settings}
use Rattle.sc_words.specs.declared.values.StartType.{StartType}
use Rattle.sc_words.specs.declared.values.StartType.TheVariants.{Auto, Demand, Disabled, DelayedAuto}
use Rattle.sc_words.specs.Security.{right_of_parts}
use Rattle.sc_words.specs.Calls.{Standing, Asks, Failed, Done, stage_of, given, handle_before, closed}

-- ## Rights

abbrev pub manager_right : Task → ℕ
manager_right (task.Create s) = SC_MANAGER_CREATE_SERVICE
manager_right task.QueryAll = SC_MANAGER_ENUMERATE_SERVICE
manager_right task.QueryLock = SC_MANAGER_QUERY_LOCK_STATUS
manager_right _ = SC_MANAGER_CONNECT

-- the right that sending a control needs
abbrev pub control_right : ℕ → ℕ
control_right code =
    if code == SERVICE_CONTROL_STOP then SERVICE_STOP
    else if code == SERVICE_CONTROL_PAUSE then SERVICE_PAUSE_CONTINUE
    else if code == SERVICE_CONTROL_CONTINUE then SERVICE_PAUSE_CONTINUE
    else if code == SERVICE_CONTROL_INTERROGATE then SERVICE_INTERROGATE
    else if nat_le SERVICE_CONTROL_PARAMCHANGE code && nat_le code SERVICE_CONTROL_NETBINDDISABLE then SERVICE_PAUSE_CONTINUE
    else SERVICE_USER_DEFINED_CONTROL

abbrev pub service_right : Task → ℕ
service_right (task.Create s) = SERVICE_ALL_ACCESS
service_right (task.Config s) = SERVICE_CHANGE_CONFIG
service_right (task.Description text) = SERVICE_CHANGE_CONFIG
service_right (task.Failure s) = SERVICE_CHANGE_CONFIG + SERVICE_START
service_right (task.Start words) = SERVICE_START
service_right (task.Control code) = control_right code
service_right task.Query = SERVICE_QUERY_STATUS
service_right task.Delete = DELETE
service_right task.QueryConfig = SERVICE_QUERY_CONFIG
service_right (task.QueryLevel level) = SERVICE_QUERY_CONFIG
service_right task.QueryEx = SERVICE_QUERY_STATUS
service_right (task.FailureFlag on) = SERVICE_CHANGE_CONFIG
service_right (task.Triggers triggers) = SERVICE_CHANGE_CONFIG
service_right task.EnumDepend = SERVICE_ENUMERATE_DEPENDENTS
service_right task.QuerySecurity = READ_CONTROL
service_right (task.SetSecurity new) = right_of_parts new.parts
service_right _ = 0

-- ## Configurations

abbrev pub start_code : StartType → ℕ
start_code Auto = SERVICE_AUTO_START
start_code DelayedAuto = SERVICE_AUTO_START
start_code Demand = SERVICE_DEMAND_START
start_code Disabled = SERVICE_DISABLED

abbrev pub is_delayed : Option StartType → Bool
is_delayed (Some DelayedAuto) = true
is_delayed _ = false

-- a tag is asked for by a number that isn't used
abbrev pub tag_asked : Option Bool → Option ℕ
tag_asked (Some true) = Some 0
tag_asked _ = None

-- units as bytes, the low one first
abbrev pub utf16_bytes : List ℕ → List ℕ
utf16_bytes [] = []
utf16_bytes (unit ∷ units) = unit % 256 ∷ unit / 256 ∷ utf16_bytes units

abbrev pub zero_ended : List ℕ → List ℕ
zero_ended name = name ++ 0 ∷ []

-- names, each ended by a 0 and all by one more
unfoldable pub needs_bytes : List (List ℕ) → List ℕ
needs_bytes names = utf16_bytes (flat_map zero_ended names ++ 0 ∷ [])

abbrev pub creation : List ℕ → Settings → ℕ → NewService
creation name s handle = record {
  handle = handle;
  name = name;
  display = s.display;
  access = SERVICE_ALL_ACCESS;
  kind = unwrap_or s.kind SERVICE_WIN32_OWN_PROCESS;
  start = unwrap_or (option_map start_code s.start) SERVICE_DEMAND_START;
  error = unwrap_or s.error SERVICE_ERROR_NORMAL;
  path = unwrap_or s.path [];
  group = s.group;
  tag = tag_asked s.tag;
  needs = option_map needs_bytes s.needs;
  account = s.account;
}

-- what no key says stays as it is
abbrev pub change : Settings → ℕ → ChangeService
change s handle = record {
  handle = handle;
  kind = unwrap_or s.kind SERVICE_NO_CHANGE;
  start = unwrap_or (option_map start_code s.start) SERVICE_NO_CHANGE;
  error = unwrap_or s.error SERVICE_NO_CHANGE;
  path = s.path;
  group = s.group;
  tag = tag_asked s.tag;
  needs = option_map needs_bytes s.needs;
  account = s.account;
  display = s.display;
}

-- ## Requests

abbrev pub level_number : Level → ℕ
level_number level.Description = SERVICE_CONFIG_DESCRIPTION
level_number level.Failure = SERVICE_CONFIG_FAILURE_ACTIONS
level_number level.FailureFlag = SERVICE_CONFIG_FAILURE_ACTIONS_FLAG
level_number level.Triggers = SERVICE_CONFIG_TRIGGER_INFO

-- how many units a name may have that is asked for, with its zero
abbrev pub name_size : ℕ
name_size = 4096

-- how many bytes a page of services has
abbrev pub page_size : ℕ
page_size = 65536

-- how many bytes a descriptor of a list has at most
abbrev pub security_size : ℕ
security_size = 65555

abbrev pub every_kind : ℕ
every_kind = SERVICE_WIN32_OWN_PROCESS + SERVICE_WIN32_SHARE_PROCESS

-- a configuration is asked for, and by a second call whether the service starts delayed
abbrev pub config_asks : Method → ℕ → Request
config_asks method.QueryServiceConfig2 handle = request.QueryConfig2 handle SERVICE_CONFIG_DELAYED_AUTO_START_INFO MAX_CONFIG_SIZE
config_asks m handle = request.QueryConfig handle MAX_CONFIG_SIZE

-- what a task asks that reads
abbrev pub query_asks : Command → Task → Method → ℕ → Request
query_asks c task.QueryConfig m handle = config_asks m handle
query_asks c (task.QueryLevel level) m handle = request.QueryConfig2 handle (level_number level) MAX_CONFIG_SIZE
query_asks c task.QueryEx m handle = request.QueryStatusEx handle SC_STATUS_PROCESS_INFO MAX_CONFIG_SIZE
query_asks c task.EnumDepend m handle = request.EnumDependents handle SERVICE_STATE_ALL MAX_ENUM_SIZE
query_asks c task.DisplayName m handle = request.DisplayName handle c.name name_size
query_asks c task.KeyName m handle = request.KeyName handle c.name name_size
query_asks c task.QuerySecurity m handle = request.QuerySecurity handle DACL_SECURITY_INFORMATION security_size
query_asks c _ m handle = request.QueryLock handle MAX_LOCK_STATUS_SIZE

-- what a task asks that writes a configuration
abbrev pub write_asks : Command → Task → Method → ℕ → Request
write_asks c (task.Create s) method.ChangeServiceConfig2 handle = request.Change2 handle (info.Delayed (is_delayed s.start))
write_asks c (task.Create s) m handle = request.Create (creation c.name s handle)
write_asks c (task.Config s) method.ChangeServiceConfig2 handle = request.Change2 handle (info.Delayed (is_delayed s.start))
write_asks c (task.Config s) m handle = request.Change (change s handle)
write_asks c (task.Description text) m handle = request.Change2 handle (info.Description (Some text))
write_asks c (task.Failure s) m handle = request.Change2 handle (info.Failure (unwrap_or s.reset 0) s.command s.actions)
write_asks c (task.FailureFlag on) m handle = request.Change2 handle (info.OnExit on)
write_asks c (task.Triggers triggers) m handle = request.Change2 handle (info.Triggers triggers)
write_asks c (task.SetSecurity new) m handle = request.SetSecurity handle new.parts new.bytes
write_asks c t m handle = query_asks c t m handle

-- what a task asks of its service, or of the manager
abbrev pub task_asks : Command → Task → Method → ℕ → Request
task_asks c (task.Start words) m handle = request.Start handle (Some words)
task_asks c (task.Control code) m handle = request.Control handle code
task_asks c task.Query m handle = request.QueryStatus handle
task_asks c task.Delete m handle = request.Delete handle
task_asks c t m handle = write_asks c t m handle

-- the number after which the next page begins
abbrev pub resume_heard : Option Heard → Option ℕ
resume_heard (Some (heard.Reply (reply.Page size bytes needed returned resume code))) = resume
resume_heard _ = Some 0

-- a page of services, after those that were given
abbrev pub page_asks : ℕ → List Heard → Request
page_asks handle hs = request.EnumServices handle every_kind SERVICE_STATE_ALL page_size (resume_heard (slice_get hs (length hs - 1)))

-- what a call asks by the handle that was given last
abbrev pub method_asks : Command → Method → List Heard → ℕ → Request
method_asks c method.OpenSCManager hs handle = request.OpenManager None (manager_right c.task)
method_asks c method.OpenService hs handle = request.OpenService handle c.name (service_right c.task)
method_asks c method.EnumServicesStatus hs handle = page_asks handle hs
method_asks c m hs handle = task_asks c c.task m handle

-- the close of the handle that was given last among those that aren't closed
abbrev pub close : Command → List Heard → Option Request
close c hs =
    if nat_lt (closed c.task hs) (given c.task hs) then Some (request.Close (handle_before (closed c.task hs) c.task hs)) else None

abbrev pub asks_at : Standing → Command → List Heard → Option Request
asks_at (Asks m) c hs = Some (method_asks c m hs (handle_before 0 c.task hs))
asks_at (Failed m h) c hs = close c hs
asks_at Done c hs = close c hs

-- the next request of a command after these replies
unfoldable pub asks : Command → List Heard → Option Request
asks c hs = asks_at (stage_of c.task hs) c hs
