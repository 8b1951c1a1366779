-- The calls of a command: which they are, and how far they came.
use Rattle.std.specs.Prelude.{ℕ, ◌+◌, ◌-◌, ◌==◌, Bool, true, false, nat_lt, ◌&&◌, min, List, [], ◌∷◌, length, slice_get}
use Rattle.std.specs.Prelude.{Option, None, Some, if◌then◌else◌}
use Rattle.scm_model.specs.declared.calls.Reply.{Reply}
use Rattle.scm_model.specs.declared.calls.Reply.TheVariants as reply
use Rattle.scm_model.specs.declared.codes.TheConstants.{ERROR_MORE_DATA}
use Rattle.sc_words.specs.declared.calls.Failure.{Failure}
use Rattle.sc_words.specs.declared.calls.Failure.TheVariants as failure
use Rattle.sc_words.specs.declared.calls.Heard.{Heard}
use Rattle.sc_words.specs.declared.calls.Heard.TheVariants as heard
use Rattle.sc_words.specs.declared.calls.Method.{Method}
use Rattle.sc_words.specs.declared.calls.Method.TheVariants as method
use Rattle.sc_words.specs.declared.calls.Progress.{Progress}
use Rattle.sc_words.specs.declared.command.Task.{Task}
use Rattle.sc_words.specs.declared.command.Task.TheVariants as task
use Rattle.sc_words.specs.declared.values.StartType.{StartType}
use Rattle.sc_words.specs.declared.values.StartType.TheVariants.{Auto, DelayedAuto}

-- ## Which calls

-- whether a creation says that a service starts delayed: it can only say yes
abbrev pub delay_of_creation : Option StartType → Option Bool
delay_of_creation (Some DelayedAuto) = Some true
delay_of_creation _ = None

-- a change says yes or no wherever it makes a service start by itself
abbrev pub delay_of_change : Option StartType → Option Bool
delay_of_change (Some Auto) = Some false
delay_of_change (Some DelayedAuto) = Some true
delay_of_change _ = None

abbrev pub and_delay : Option Bool → List Method
and_delay None = []
and_delay (Some on) = method.ChangeServiceConfig2 ∷ []

-- the calls after OpenSCManager, before the handles are closed
abbrev pub methods_of : Task → List Method
methods_of (task.Create s) = method.CreateService ∷ and_delay (delay_of_creation s.start)
methods_of (task.Config s) = method.OpenService ∷ method.ChangeServiceConfig ∷ and_delay (delay_of_change s.start)
methods_of (task.Description text) = method.OpenService ∷ method.ChangeServiceConfig2 ∷ []
methods_of (task.Failure s) = method.OpenService ∷ method.ChangeServiceConfig2 ∷ []
methods_of (task.Start words) = method.OpenService ∷ method.StartService ∷ []
methods_of (task.Control code) = method.OpenService ∷ method.ControlService ∷ []
methods_of task.Query = method.OpenService ∷ method.QueryServiceStatus ∷ []
methods_of task.Delete = method.OpenService ∷ method.DeleteService ∷ []
methods_of task.QueryConfig = method.OpenService ∷ method.QueryServiceConfig ∷ method.QueryServiceConfig2 ∷ []
methods_of (task.QueryLevel level) = method.OpenService ∷ method.QueryServiceConfig2 ∷ []
methods_of task.QueryEx = method.OpenService ∷ method.QueryServiceStatusEx ∷ []
methods_of (task.FailureFlag on) = method.OpenService ∷ method.ChangeServiceConfig2 ∷ []
methods_of (task.Triggers triggers) = method.OpenService ∷ method.ChangeServiceConfig2 ∷ []
methods_of task.EnumDepend = method.OpenService ∷ method.EnumDependentServices ∷ []
methods_of task.DisplayName = method.GetServiceDisplayName ∷ []
methods_of task.KeyName = method.GetServiceKeyName ∷ []
methods_of task.QueryAll = method.EnumServicesStatus ∷ []
methods_of task.QueryLock = method.QueryServiceLockStatus ∷ []
methods_of task.QuerySecurity = method.OpenService ∷ method.QueryServiceObjectSecurity ∷ []
methods_of (task.SetSecurity new) = method.OpenService ∷ method.SetServiceObjectSecurity ∷ []

abbrev pub methods_called : Task → List Method
methods_called t = method.OpenSCManager ∷ methods_of t

-- ## How far they came

abbrev pub code_heard : Reply → ℕ
code_heard (reply.Code code) = code
code_heard (reply.Handle handle code) = code
code_heard (reply.State status code) = code
code_heard (reply.Made tag handle code) = code
code_heard (reply.Tag tag code) = code
code_heard (reply.Shown config needed code) = code
code_heard (reply.LockState held owner seconds needed code) = code
code_heard (reply.Name name size code) = code
code_heard (reply.Listing size bytes needed returned code) = code
code_heard (reply.Page size bytes needed returned resume code) = code
code_heard (reply.Bytes size bytes needed code) = code
code_heard (reply.Notice mask status name code) = code

-- a call succeeded
abbrev pub is_good : Heard → Bool
is_good (heard.Reply r) = code_heard r == 0
is_good (heard.Fault status) = false

-- why a call didn't succeed that was answered so
abbrev pub failure_heard : Heard → Failure
failure_heard (heard.Reply r) = failure.Refused (code_heard r)
failure_heard (heard.Fault status) = failure.Fault status

-- a page of services after which there is another: the call is made again
abbrev pub is_part : Heard → Bool
is_part (heard.Reply (reply.Page size bytes needed returned resume code)) = code == ERROR_MORE_DATA && nat_lt 0 returned
is_part _ = false

-- how many calls an answer completes, unless it is a failure
abbrev pub completes : Heard → Option ℕ
completes h = if is_part h then Some 0 else if is_good h then Some 1 else None

-- one answer more was taken, and one call more is done or none
abbrev pub and_taken : (done : ℕ) → Progress → Progress
and_taken more p = record { done = p.done + more; taken = p.taken + 1 }

-- up to the first call that didn't succeed, or that isn't answered yet
unfoldable pub progress_of : List Method → List Heard → Progress
progress_of [] hs = record { done = 0; taken = 0 }
progress_of (m ∷ ms) [] = record { done = 0; taken = 0 }
progress_of (m ∷ ms) (h ∷ hs) =
    if is_part h then and_taken 0 (progress_of (m ∷ ms) hs)
    else if is_good h then and_taken 1 (progress_of ms hs)
    else record { done = 0; taken = 0 }

-- where the calls of a task stand
pub data Standing : Type 0 where
  -- this one is to be made
  Asks : Method → Standing
  -- this one was refused, or met a fault
  Failed : Method → Heard → Standing
  -- all succeeded
  Done : Standing

abbrev pub standing_by : Option Method → Option Heard → Standing
standing_by None h = Done
standing_by (Some m) None = Asks m
standing_by (Some m) (Some h) = Failed m h

unfoldable pub stage_of : Task → List Heard → Standing
stage_of t hs = let p = progress_of (methods_called t) hs in standing_by (slice_get (methods_called t) p.done) (slice_get hs p.taken)

-- ## Handles

abbrev pub handle_heard : Reply → ℕ
handle_heard (reply.Handle handle code) = handle
handle_heard (reply.Made tag handle code) = handle
handle_heard _ = 0

abbrev pub handle_in : Option Heard → ℕ
handle_in (Some (heard.Reply r)) = handle_heard r
handle_in _ = 0

-- how many calls of a task give a handle: the manager's is first, and the service's is second
abbrev pub handles_of : Task → ℕ
handles_of task.DisplayName = 1
handles_of task.KeyName = 1
handles_of task.QueryAll = 1
handles_of task.QueryLock = 1
handles_of _ = 2

unfoldable pub given : Task → List Heard → ℕ
given t hs = min (handles_of t) (progress_of (methods_called t) hs).done

-- the handle that was given before the last so many
unfoldable pub handle_before : ℕ → Task → List Heard → ℕ
handle_before last t hs = handle_in (slice_get hs (given t hs - 1 - last))

-- how many replies came to the closes
abbrev pub closed_by : Standing → Task → List Heard → ℕ
closed_by (Asks m) t hs = 0
closed_by (Failed m h) t hs = length hs - (progress_of (methods_called t) hs).taken - 1
closed_by Done t hs = length hs - (progress_of (methods_called t) hs).taken

unfoldable pub closed : Task → List Heard → ℕ
closed t hs = closed_by (stage_of t hs) t hs
