-- The calls that read and set a service's security descriptor: for each its opnum, its request, and the kind of its replies.
use Rattle.std.specs.Prelude.{ℕ, ◌==◌, if◌then◌else◌, Option, Some, None}
use Rattle.scm_model.specs.declared.calls.Request.{Request}
use Rattle.scm_model.specs.declared.calls.Request.TheVariants as request
use Rattle.scm_model.specs.declared.codes.TheConstants.{R_QUERY_SERVICE_OBJECT_SECURITY, R_SET_SERVICE_OBJECT_SECURITY}
use Rattle.scm_calls.specs.declared.kinds.ReplyKind.{ReplyKind}
use Rattle.scm_calls.specs.declared.kinds.ReplyKind.TheVariants as kind
use Rattle.scm_calls_sec.specs.declared.calls.Call.{Call}
use Rattle.scm_calls_sec.specs.declared.calls.Call.TheVariants as call

abbrev pub security_call_at : ℕ → Option Call
security_call_at opnum =
    if opnum == R_QUERY_SERVICE_OBJECT_SECURITY then Some call.QuerySecurity
    else if opnum == R_SET_SERVICE_OBJECT_SECURITY then Some call.SetSecurity
    else None

abbrev pub security_call_of : Request → Option Call
security_call_of (request.QuerySecurity handle parts size) = Some call.QuerySecurity
security_call_of (request.SetSecurity handle parts bytes) = Some call.SetSecurity
security_call_of _ = None

abbrev pub security_reply_kind : Call → ReplyKind
security_reply_kind call.QuerySecurity = kind.Bytes
security_reply_kind call.SetSecurity = kind.Code
