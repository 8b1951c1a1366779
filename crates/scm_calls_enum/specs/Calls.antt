-- The calls that list services and tell of what happens to them: for each its opnum, its request, and the kind of its replies.
use Rattle.std.specs.Prelude.{ℕ, ◌==◌, if◌then◌else◌, Option, Some, None}
use Rattle.scm_model.specs.declared.calls.Request.{Request}
use Rattle.scm_model.specs.declared.calls.Request.TheVariants as request
use Rattle.scm_model.specs.declared.codes.TheConstants.{R_CLOSE_NOTIFY_HANDLE, R_ENUM_DEPENDENT_SERVICES_W, R_ENUM_SERVICES_STATUS_W}
use Rattle.scm_model.specs.declared.codes.TheConstants.{R_GET_NOTIFY_RESULTS, R_NOTIFY_SERVICE_STATUS_CHANGE, R_QUERY_SERVICE_STATUS_EX}
use Rattle.scm_calls.specs.declared.kinds.ReplyKind.{ReplyKind}
use Rattle.scm_calls.specs.declared.kinds.ReplyKind.TheVariants as kind
use Rattle.scm_calls_enum.specs.declared.calls.Call.{Call}
use Rattle.scm_calls_enum.specs.declared.calls.Call.TheVariants as call

abbrev pub enum_call_at : ℕ → Option Call
enum_call_at opnum =
    if opnum == R_ENUM_DEPENDENT_SERVICES_W then Some call.EnumDependents
    else if opnum == R_ENUM_SERVICES_STATUS_W then Some call.EnumServices
    else if opnum == R_QUERY_SERVICE_STATUS_EX then Some call.QueryStatusEx
    else if opnum == R_NOTIFY_SERVICE_STATUS_CHANGE then Some call.Notify
    else if opnum == R_GET_NOTIFY_RESULTS then Some call.GetNotify
    else if opnum == R_CLOSE_NOTIFY_HANDLE then Some call.CloseNotify
    else None

abbrev pub enum_call_of : Request → Option Call
enum_call_of (request.EnumDependents handle states size) = Some call.EnumDependents
enum_call_of (request.EnumServices handle kinds states size resume) = Some call.EnumServices
enum_call_of (request.QueryStatusEx handle level size) = Some call.QueryStatusEx
enum_call_of (request.Notify handle mask) = Some call.Notify
enum_call_of (request.GetNotify handle) = Some call.GetNotify
enum_call_of (request.CloseNotify handle) = Some call.CloseNotify
enum_call_of _ = None

abbrev pub enum_reply_kind : Call → ReplyKind
enum_reply_kind call.EnumDependents = kind.Listing
enum_reply_kind call.EnumServices = kind.Page
enum_reply_kind call.QueryStatusEx = kind.Bytes
enum_reply_kind call.Notify = kind.Handle
enum_reply_kind call.GetNotify = kind.Notice
enum_reply_kind call.CloseNotify = kind.Handle
