-- What is printed of the replies.
use Rattle.std.specs.Prelude.{ℕ, List, [], ◌∷◌, ◌++◌, slice_get, Option, None, Some, codes, decimal, unwrap_or}
use Rattle.std.specs.List.{flat_map}
use Rattle.scm_model.specs.declared.calls.Reply.TheVariants as reply
use Rattle.scm_model.specs.declared.calls.Shown.{Shown}
use Rattle.sc_lines.specs.Configs.{config_text}
use Rattle.sc_lines.specs.Levels.{description_text, failure_text, flag_text, is_on}
use Rattle.sc_lines.specs.Lines.{Text, lines}
use Rattle.sc_lines.specs.Listings.{listing_text}
use Rattle.sc_lines.specs.Locks.{lock_text}
use Rattle.sc_lines.specs.Security.{security_text}
use Rattle.sc_lines.specs.Statuses.{process_text, status_text}
use Rattle.sc_lines.specs.Triggers.{triggers_text}
use Rattle.sc_words.specs.declared.calls.Failure.{Failure}
use Rattle.sc_words.specs.declared.calls.Heard.{Heard}
use Rattle.sc_words.specs.declared.calls.Heard.TheVariants as heard
use Rattle.sc_words.specs.declared.calls.Method.{Method}
use Rattle.sc_words.specs.declared.calls.Method.TheVariants as method
use Rattle.sc_words.specs.declared.command.Command.{Command}
use Rattle.sc_words.specs.declared.command.Level.{Level}
use Rattle.sc_words.specs.declared.command.Level.TheVariants as level
use Rattle.sc_words.specs.declared.command.Task.{Task}
use Rattle.sc_words.specs.declared.command.Task.TheVariants as task
use Rattle.sc_words.specs.Calls.{Standing, Asks, Failed, Done, stage_of, code_heard, failure_heard}

abbrev pub method_name : Method → List ℕ
method_name method.OpenSCManager = codes "OpenSCManager"
method_name method.OpenService = codes "OpenService"
method_name method.CreateService = codes "CreateService"
method_name method.ChangeServiceConfig = codes "ChangeServiceConfig"
method_name method.ChangeServiceConfig2 = codes "ChangeServiceConfig2"
method_name method.StartService = codes "StartService"
method_name method.ControlService = codes "ControlService"
method_name method.QueryServiceStatus = codes "QueryServiceStatus"
method_name method.DeleteService = codes "DeleteService"
method_name method.QueryServiceConfig = codes "QueryServiceConfig"
method_name method.QueryServiceConfig2 = codes "QueryServiceConfig2"
method_name method.QueryServiceStatusEx = codes "QueryServiceStatusEx"
method_name method.EnumDependentServices = codes "EnumDependentServices"
method_name method.GetServiceDisplayName = codes "GetServiceDisplayName"
method_name method.GetServiceKeyName = codes "GetServiceKeyName"
method_name method.EnumServicesStatus = codes "EnumServicesStatus"
method_name method.QueryServiceLockStatus = codes "QueryServiceLockStatus"
method_name method.QueryServiceObjectSecurity = codes "QueryServiceObjectSecurity"
method_name method.SetServiceObjectSecurity = codes "SetServiceObjectSecurity"

-- `[SC] CALL` and what became of it
abbrev pub call_line : Method → List ℕ → List ℕ
call_line m rest = codes "[SC] " ++ (method_name m ++ (rest ++ codes "\n"))

abbrev pub failed_line : Method → Heard → List ℕ
failed_line m (heard.Reply r) = call_line m (codes " FAILED " ++ decimal (code_heard r))
failed_line m (heard.Fault status) = call_line m (codes " FAULT " ++ decimal status)

-- the status in the reply to the third call
abbrev pub status_lines : List ℕ → Option Heard → List ℕ
status_lines name (Some (heard.Reply (reply.State status code))) = status_text name status
status_lines name _ = []

abbrev pub success : Method → List ℕ
success m = call_line m (codes " SUCCESS")

-- ## What was asked for

abbrev pub told_bytes : Option Heard → List ℕ
told_bytes (Some (heard.Reply (reply.Bytes size bytes needed code))) = bytes
told_bytes _ = []

-- a configuration, if one was given, and whether its start is delayed
abbrev pub shown_text : List ℕ → Option Shown → List ℕ → List ℕ
shown_text name (Some config) delayed = config_text name config (is_on delayed)
shown_text name None delayed = []

abbrev pub config_lines : List ℕ → Option Heard → Option Heard → List ℕ
config_lines name (Some (heard.Reply (reply.Shown config needed code))) delayed = shown_text name config (told_bytes delayed)
config_lines name _ delayed = []

abbrev pub level_text : Level → List ℕ → List ℕ → List ℕ
level_text level.Description name bytes = description_text name bytes
level_text level.Failure name bytes = failure_text name bytes
level_text level.FailureFlag name bytes = flag_text name bytes
level_text level.Triggers name bytes = triggers_text name bytes

-- how many services are read
abbrev pub count_line : Method → ℕ → List ℕ
count_line m count = call_line m (codes ": entriesread = " ++ decimal count)

-- how many services need one, and each of them
abbrev pub dependents_text : (returned : ℕ) → List ℕ → List ℕ
dependents_text returned bytes = count_line method.EnumDependentServices returned ++ listing_text returned bytes

abbrev pub dependents_at : Option Heard → List ℕ
dependents_at (Some (heard.Reply (reply.Listing size bytes needed returned code))) = dependents_text returned bytes
dependents_at _ = []

abbrev pub page_text : Heard → List ℕ
page_text (heard.Reply (reply.Page size bytes needed returned resume code)) = listing_text returned bytes
page_text _ = []

-- every page in turn
unfoldable pub pages_text : List Heard → List ℕ
pages_text hs = flat_map page_text hs

abbrev pub name_line_at : Option Heard → List ℕ
name_line_at (Some (heard.Reply (reply.Name name size code))) = lines (Text (codes "Name = ") name ∷ [])
name_line_at _ = []

abbrev pub lock_lines : Option Heard → List ℕ
lock_lines (Some (heard.Reply (reply.LockState held owner seconds needed code))) = lock_text held (unwrap_or owner []) seconds
lock_lines _ = []

-- what is printed of a task that reads; the reply that counts is the last one before the closes
abbrev pub read_text : List ℕ → Task → List Heard → List ℕ
read_text name task.QueryConfig hs = success method.QueryServiceConfig ++ config_lines name (slice_get hs 2) (slice_get hs 3)
read_text name (task.QueryLevel level) hs = success method.QueryServiceConfig2 ++ level_text level name (told_bytes (slice_get hs 2))
read_text name task.QueryEx hs = process_text name (told_bytes (slice_get hs 2))
read_text name task.EnumDepend hs = dependents_at (slice_get hs 2)
read_text name task.DisplayName hs = success method.GetServiceDisplayName ++ name_line_at (slice_get hs 1)
read_text name task.KeyName hs = success method.GetServiceKeyName ++ name_line_at (slice_get hs 1)
read_text name task.QueryAll hs = pages_text hs
read_text name task.QuerySecurity hs = security_text (told_bytes (slice_get hs 2))
read_text name _ hs = success method.QueryServiceLockStatus ++ lock_lines (slice_get hs 1)

-- what is printed where all calls succeeded
abbrev pub done_text : List ℕ → Task → List Heard → List ℕ
done_text name (task.Create s) hs = success method.CreateService
done_text name (task.Config s) hs = success method.ChangeServiceConfig
done_text name (task.Description text) hs = success method.ChangeServiceConfig2
done_text name (task.Failure s) hs = success method.ChangeServiceConfig2
done_text name (task.Start words) hs = success method.StartService
done_text name (task.Control code) hs = status_lines name (slice_get hs 2)
done_text name task.Query hs = status_lines name (slice_get hs 2)
done_text name task.Delete hs = success method.DeleteService
done_text name (task.FailureFlag on) hs = success method.ChangeServiceConfig2
done_text name (task.Triggers triggers) hs = success method.ChangeServiceConfig2
done_text name (task.SetSecurity new) hs = success method.SetServiceObjectSecurity
done_text name t hs = read_text name t hs

abbrev pub told_at : Standing → Command → List Heard → List ℕ
told_at (Asks m) c hs = []
told_at (Failed m h) c hs = failed_line m h
told_at Done c hs = done_text c.name c.task hs

-- the text of a command's replies, and none while a call is still to be made
unfoldable pub told_text : Command → List Heard → List ℕ
told_text c hs = told_at (stage_of c.task hs) c hs

abbrev pub failure_met : Standing → Option Failure
failure_met (Failed m h) = Some (failure_heard h)
failure_met _ = None

-- why a call didn't succeed, if one didn't
unfoldable pub failure_of : Command → List Heard → Option Failure
failure_of c hs = failure_met (stage_of c.task hs)
