-- The calls on configurations: for each its opnum, its request, and the kind of its replies.
use Rattle.std.specs.Prelude.{ℕ, ◌==◌, if◌then◌else◌, Option, Some, None}
use Rattle.scm_model.specs.declared.calls.Request.{Request}
use Rattle.scm_model.specs.declared.calls.Request.TheVariants as request
use Rattle.scm_calls.specs.declared.kinds.ReplyKind.{ReplyKind}
use Rattle.scm_calls.specs.declared.kinds.ReplyKind.TheVariants as kind
use Rattle.scm_model.specs.declared.codes.TheConstants.{R_CHANGE_SERVICE_CONFIG2_W, R_CHANGE_SERVICE_CONFIG_W, R_CREATE_SERVICE_W}
use Rattle.scm_model.specs.declared.codes.TheConstants.{R_QUERY_SERVICE_CONFIG2_W, R_QUERY_SERVICE_CONFIG_W}
use Rattle.scm_calls_cfg.specs.declared.calls.Call.{Call}
use Rattle.scm_calls_cfg.specs.declared.calls.Call.TheVariants as call

abbrev pub config_call_at : ℕ → Option Call
config_call_at opnum =
    if opnum == R_CHANGE_SERVICE_CONFIG_W then Some call.Change
    else if opnum == R_CREATE_SERVICE_W then Some call.Create
    else if opnum == R_QUERY_SERVICE_CONFIG_W then Some call.QueryConfig
    else if opnum == R_CHANGE_SERVICE_CONFIG2_W then Some call.Change2
    else if opnum == R_QUERY_SERVICE_CONFIG2_W then Some call.QueryConfig2
    else None

abbrev pub config_call_of : Request → Option Call
config_call_of (request.Change change) = Some call.Change
config_call_of (request.Create new) = Some call.Create
config_call_of (request.QueryConfig handle size) = Some call.QueryConfig
config_call_of (request.Change2 handle asked) = Some call.Change2
config_call_of (request.QueryConfig2 handle level size) = Some call.QueryConfig2
config_call_of _ = None

abbrev pub config_reply_kind : Call → ReplyKind
config_reply_kind call.Change = kind.Tag
config_reply_kind call.Create = kind.Made
config_reply_kind call.QueryConfig = kind.Shown
config_reply_kind call.Change2 = kind.Code
config_reply_kind call.QueryConfig2 = kind.Bytes
