-- The calls whose lines are here: for each its opnum, its request, and the kind of its replies.
use Rattle.std.specs.Prelude.{ℕ, ◌==◌, if◌then◌else◌, Option, Some, None}
use Rattle.scm_model.specs.declared.calls.Request.{Request}
use Rattle.scm_model.specs.declared.calls.Request.TheVariants as request
use Rattle.scm_model.specs.declared.codes.TheConstants.{R_CLOSE_SERVICE_HANDLE, R_CONTROL_SERVICE, R_DELETE_SERVICE}
use Rattle.scm_model.specs.declared.codes.TheConstants.{R_GET_SERVICE_DISPLAY_NAME_W, R_GET_SERVICE_KEY_NAME_W, R_LOCK_SERVICE_DATABASE}
use Rattle.scm_model.specs.declared.codes.TheConstants.{R_OPEN_SC_MANAGER_W, R_OPEN_SERVICE_W, R_QUERY_SERVICE_LOCK_STATUS_W}
use Rattle.scm_model.specs.declared.codes.TheConstants.{R_QUERY_SERVICE_STATUS, R_SET_SERVICE_STATUS, R_START_SERVICE_W}
use Rattle.scm_model.specs.declared.codes.TheConstants.{R_UNLOCK_SERVICE_DATABASE}
use Rattle.scm_calls.specs.declared.calls.Call.{Call}
use Rattle.scm_calls.specs.declared.calls.Call.TheVariants as call
use Rattle.scm_calls.specs.declared.kinds.ReplyKind.{ReplyKind}
use Rattle.scm_calls.specs.declared.kinds.ReplyKind.TheVariants as kind

abbrev pub plain_call_at : ℕ → Option Call
plain_call_at opnum =
    if opnum == R_CLOSE_SERVICE_HANDLE then Some call.Close
    else if opnum == R_CONTROL_SERVICE then Some call.Control
    else if opnum == R_DELETE_SERVICE then Some call.Delete
    else if opnum == R_LOCK_SERVICE_DATABASE then Some call.Lock
    else if opnum == R_QUERY_SERVICE_STATUS then Some call.QueryStatus
    else if opnum == R_SET_SERVICE_STATUS then Some call.SetStatus
    else if opnum == R_UNLOCK_SERVICE_DATABASE then Some call.Unlock
    else if opnum == R_OPEN_SC_MANAGER_W then Some call.OpenManager
    else if opnum == R_OPEN_SERVICE_W then Some call.OpenService
    else if opnum == R_QUERY_SERVICE_LOCK_STATUS_W then Some call.QueryLock
    else if opnum == R_START_SERVICE_W then Some call.Start
    else if opnum == R_GET_SERVICE_DISPLAY_NAME_W then Some call.DisplayName
    else if opnum == R_GET_SERVICE_KEY_NAME_W then Some call.KeyName
    else None

abbrev pub plain_call_of : Request → Option Call
plain_call_of (request.Close handle) = Some call.Close
plain_call_of (request.Control handle control) = Some call.Control
plain_call_of (request.Delete handle) = Some call.Delete
plain_call_of (request.Lock handle) = Some call.Lock
plain_call_of (request.QueryStatus handle) = Some call.QueryStatus
plain_call_of (request.SetStatus handle status) = Some call.SetStatus
plain_call_of (request.Unlock handle) = Some call.Unlock
plain_call_of (request.OpenManager database access) = Some call.OpenManager
plain_call_of (request.OpenService handle name access) = Some call.OpenService
plain_call_of (request.QueryLock handle size) = Some call.QueryLock
plain_call_of (request.Start handle words) = Some call.Start
plain_call_of (request.DisplayName handle name size) = Some call.DisplayName
plain_call_of (request.KeyName handle name size) = Some call.KeyName
plain_call_of _ = None

abbrev pub plain_reply_kind : Call → ReplyKind
plain_reply_kind call.Close = kind.Handle
plain_reply_kind call.Control = kind.State
plain_reply_kind call.Delete = kind.Code
plain_reply_kind call.Lock = kind.Handle
plain_reply_kind call.QueryStatus = kind.State
plain_reply_kind call.SetStatus = kind.Code
plain_reply_kind call.Unlock = kind.Handle
plain_reply_kind call.OpenManager = kind.Handle
plain_reply_kind call.OpenService = kind.Handle
plain_reply_kind call.QueryLock = kind.LockState
plain_reply_kind call.Start = kind.Code
plain_reply_kind call.DisplayName = kind.Name
plain_reply_kind call.KeyName = kind.Name
