-- What each call results in, and the change of the configurations that it asks to be kept.
use Rattle.std.specs.Prelude.{ℕ, Bool, not, ◌==◌, Option, None, if◌then◌else◌}
use Rattle.scm_model.specs.declared.flat.Flat.{Flat}
use Rattle.scm_model.specs.declared.flat.Limits.{Limits}
use Rattle.scm_model.specs.declared.calls.Request.{Request}
use Rattle.scm_model.specs.declared.calls.Request.TheVariants as request
use Rattle.scm_model.specs.declared.calls.Reply.{Reply}
use Rattle.scm_model.specs.declared.steps.Change.{Change}
use Rattle.scm_model.specs.declared.steps.Kept.{Kept}
use Rattle.scm_model.specs.declared.steps.Kept.TheVariants as appended
use Rattle.scm_model.specs.declared.steps.Step.{Step}
use Rattle.scm_model.specs.declared.steps.Step.TheVariants.{Call}
use Rattle.scm_model.specs.Refused.{answered, refused}
use Rattle.scm_model.specs.Outcomes.{CallResult}
use Rattle.scm_rules.specs.Create.{create_verdict, create_done, create_change}
use Rattle.scm_rules.specs.Controls.{control_verdict, control_told, control_done}
use Rattle.scm_rules.specs.Delete.{delete_verdict, delete_done, delete_change}
use Rattle.scm_rules.specs.Query.{query_verdict, query_done}
use Rattle.scm_rules.specs.Change.{change_verdict, change_done, change_change}
use Rattle.scm_rules.specs.QueryConfig.{query_config_verdict, query_config_told, query_config_done}
use Rattle.scm_rules.specs.Locks.{lock_verdict, lock_done, unlock_verdict, unlock_done, query_lock_verdict, query_lock_told}
use Rattle.scm_rules.specs.Locks.{query_lock_done}
use Rattle.scm_rules.specs.Reports.{set_status_verdict, set_status_done}
use Rattle.scm_rules.specs.Start.{start_verdict, start_done}
use Rattle.scm_rules.specs.OtherName.{display_by_name, name_by_display, other_name_verdict, other_name_told, other_name_done}
use Rattle.scm_rules.specs.Notify.{notify_verdict, notify_done, notice_verdict, get_notify_done, close_notify_done}
use Rattle.scm_rules.specs.EnumDependents.{enum_dependents_verdict, enum_dependents_told, enum_dependents_done}
use Rattle.scm_rules.specs.EnumServices.{enum_services_verdict, enum_services_told, enum_services_done}
use Rattle.scm_rules.specs.QueryStatusEx.{query_ex_verdict, query_ex_told, query_ex_done}
use Rattle.scm_rules.specs.Change2.{change2_verdict, change2_done, change2_change}
use Rattle.scm_rules.specs.QueryConfig2.{query_config2_verdict, query_config2_told, query_config2_done}
use Rattle.scm_rules.specs.Close.{close_verdict, close_done}
use Rattle.scm_rules.specs.OpenManager.{open_manager_verdict, open_manager_done}
use Rattle.scm_rules.specs.OpenService.{open_service_verdict, open_service_done}
use Rattle.scm_rules.specs.Security.{descriptor_in, query_security_done, query_security_told, query_security_verdict, set_security_done}
use Rattle.scm_rules.specs.Security.{set_security_verdict}

-- the first refusal of a call, or 0
abbrev pub verdict : Limits → Flat → ℕ → Request → Kept → ℕ
verdict l f caller (request.Close handle) append = close_verdict f caller handle
verdict l f caller (request.Control handle control) append = control_verdict l f caller handle control
verdict l f caller (request.Delete handle) append = delete_verdict f caller handle append
verdict l f caller (request.Lock handle) append = lock_verdict l f caller handle
verdict l f caller (request.QuerySecurity handle parts size) append = query_security_verdict f caller handle parts size
verdict l f caller (request.SetSecurity handle parts bytes) append = set_security_verdict f caller handle parts (descriptor_in bytes)
verdict l f caller (request.QueryStatus handle) append = query_verdict f caller handle
verdict l f caller (request.SetStatus handle status) append = set_status_verdict f caller handle status
verdict l f caller (request.Unlock handle) append = unlock_verdict f caller handle
verdict l f caller (request.Change change) append = change_verdict f caller change append
verdict l f caller (request.Create new) append = create_verdict l f caller new append
verdict l f caller (request.OpenManager database access) append = open_manager_verdict l f caller database access
verdict l f caller (request.OpenService handle name access) append = open_service_verdict l f caller handle name access
verdict l f caller (request.QueryConfig handle size) append = query_config_verdict f caller handle size
verdict l f caller (request.QueryLock handle size) append = query_lock_verdict f caller handle size
verdict l f caller (request.Start handle words) append = start_verdict f caller handle words
verdict l f caller (request.DisplayName handle name size) append = other_name_verdict f caller handle size (display_by_name f name)
verdict l f caller (request.KeyName handle name size) append = other_name_verdict f caller handle size (name_by_display f name)
verdict l f caller (request.Notify handle mask) append = notify_verdict l f caller handle mask
verdict l f caller (request.GetNotify handle) append = notice_verdict f caller handle
verdict l f caller (request.CloseNotify handle) append = notice_verdict f caller handle
verdict l f caller (request.EnumDependents handle states size) append = enum_dependents_verdict f caller handle states size
verdict l f caller (request.EnumServices handle kinds states size resume) append =
    enum_services_verdict f caller handle kinds states size resume
verdict l f caller (request.Change2 handle asked) append = change2_verdict f caller handle asked append
verdict l f caller (request.QueryConfig2 handle level size) append = query_config2_verdict f caller handle level size
verdict l f caller (request.QueryStatusEx handle level size) append = query_ex_verdict f caller handle level size

-- the reply to a call that is refused: if a size is too small, it has the size needed, and of a page what there is room for; if a service
-- doesn't get a control now, it has the service's status
abbrev pub told_refused : Flat → ℕ → Request → ℕ → Reply
told_refused f caller (request.Control handle control) code = control_told f caller handle code
told_refused f caller (request.QuerySecurity handle parts size) code = query_security_told f caller handle parts size code
told_refused f caller (request.QueryConfig handle size) code = query_config_told f caller handle code
told_refused f caller (request.QueryLock handle size) code = query_lock_told f code
told_refused f caller (request.DisplayName handle name size) code = other_name_told (display_by_name f name) code
told_refused f caller (request.KeyName handle name size) code = other_name_told (name_by_display f name) code
told_refused f caller (request.EnumDependents handle states size) code = enum_dependents_told f caller handle states size code
told_refused f caller (request.EnumServices handle kinds states size resume) code = enum_services_told f kinds states size resume code
told_refused f caller (request.QueryConfig2 handle level size) code = query_config2_told f caller handle level size code
told_refused f caller (request.QueryStatusEx handle level size) code = query_ex_told size code
told_refused f caller asked code = refused asked code

-- the reply and the state of a call that is not refused
abbrev pub done_of : Limits → Flat → ℕ → Request → CallResult
done_of l f caller (request.Close handle) = close_done f handle
done_of l f caller (request.Control handle control) = control_done l f caller handle control
done_of l f caller (request.Delete handle) = delete_done f caller handle
done_of l f caller (request.Lock handle) = lock_done f caller
done_of l f caller (request.QuerySecurity handle parts size) = query_security_done f caller handle parts size
done_of l f caller (request.SetSecurity handle parts bytes) = set_security_done f caller handle parts (descriptor_in bytes)
done_of l f caller (request.QueryStatus handle) = query_done f caller handle
done_of l f caller (request.SetStatus handle status) = set_status_done f caller handle status
done_of l f caller (request.Unlock handle) = unlock_done f handle
done_of l f caller (request.Change change) = change_done f caller change
done_of l f caller (request.Create new) = create_done f caller new
done_of l f caller (request.OpenManager database access) = open_manager_done f caller access
done_of l f caller (request.OpenService handle name access) = open_service_done f caller name access
done_of l f caller (request.QueryConfig handle size) = query_config_done f caller handle
done_of l f caller (request.QueryLock handle size) = query_lock_done f
done_of l f caller (request.Start handle words) = start_done f caller handle words
done_of l f caller (request.DisplayName handle name size) = other_name_done f (display_by_name f name)
done_of l f caller (request.KeyName handle name size) = other_name_done f (name_by_display f name)
done_of l f caller (request.Notify handle mask) = notify_done f caller handle mask
done_of l f caller (request.GetNotify handle) = get_notify_done f caller handle
done_of l f caller (request.CloseNotify handle) = close_notify_done f caller handle
done_of l f caller (request.EnumDependents handle states size) = enum_dependents_done f caller handle states size
done_of l f caller (request.EnumServices handle kinds states size resume) = enum_services_done f kinds states size resume
done_of l f caller (request.Change2 handle asked) = change2_done f caller handle asked
done_of l f caller (request.QueryConfig2 handle level size) = query_config2_done f caller handle level size
done_of l f caller (request.QueryStatusEx handle level size) = query_ex_done f caller handle size

-- the reply and the state of a call
abbrev pub call_of : Limits → Flat → ℕ → Request → Kept → CallResult
call_of l f caller asked append =
    answered (verdict l f caller asked append) (told_refused f caller asked (verdict l f caller asked append)) f (done_of l f caller asked)

-- no change where a call is refused
abbrev pub unless_refused : ℕ → Option Change → Option Change
unless_refused code change = if code == 0 then change else None

-- the change that a call would make if it were kept: none where it is refused before
abbrev pub change_of_call : Limits → Flat → ℕ → Request → Option Change
change_of_call l f caller (request.Delete handle) = unless_refused (delete_verdict f caller handle appended.Kept)
    (delete_change f caller handle)
change_of_call l f caller (request.Change change) = unless_refused (change_verdict f caller change appended.Kept)
    (change_change f caller change)
change_of_call l f caller (request.Change2 handle asked) = unless_refused (change2_verdict f caller handle asked appended.Kept)
    (change2_change f caller handle asked)
change_of_call l f caller (request.Create new) = unless_refused (create_verdict l f caller new appended.Kept) (create_change f new)
change_of_call l f caller asked = None

-- the change of the configurations that a step would make if it were kept, or none
abbrev pub change_of : Limits → Flat → Step → Option Change
change_of l f (Call caller asked append) = change_of_call l f caller asked
change_of l f step = None

-- a step says what became of a change exactly if it has one
abbrev pub tells_right : Bool → Kept → Bool
tells_right changes appended.NotAsked = not changes
tells_right changes appended.Kept = changes
tells_right changes appended.Failed = changes
