-- Every call that is served: it is one of those of a crate, whose line it has.
use Rattle.std.specs.Prelude.{ℕ, Option, Some, None}
use Rattle.scm_model.specs.declared.calls.Request.{Request}
use Rattle.scm_calls.specs.declared.calls.Call.{Call as PlainCall}
use Rattle.scm_calls.specs.declared.kinds.ReplyKind.{ReplyKind}
use Rattle.scm_calls.specs.Calls.{plain_call_at, plain_call_of, plain_reply_kind}
use Rattle.scm_calls_cfg.specs.declared.calls.Call.{Call as ConfigCall}
use Rattle.scm_calls_cfg.specs.Calls.{config_call_at, config_call_of, config_reply_kind}
use Rattle.scm_calls_enum.specs.declared.calls.Call.{Call as EnumCall}
use Rattle.scm_calls_enum.specs.Calls.{enum_call_at, enum_call_of, enum_reply_kind}
use Rattle.scm_calls_sec.specs.declared.calls.Call.{Call as SecurityCall}
use Rattle.scm_calls_sec.specs.Calls.{security_call_at, security_call_of, security_reply_kind}
use Rattle.scm_bodies.specs.declared.bodies.Call.{Call}
use Rattle.scm_bodies.specs.declared.bodies.Call.TheVariants as call

-- the first crate's call, or the second's, or the third's, or the fourth's
abbrev pub one_of : Option PlainCall → Option ConfigCall → Option EnumCall → Option SecurityCall → Option Call
one_of (Some first) second third fourth = Some (call.Plain first)
one_of None (Some second) third fourth = Some (call.Config second)
one_of None None (Some third) fourth = Some (call.Enum third)
one_of None None None (Some fourth) = Some (call.Security fourth)
one_of None None None None = None

abbrev pub call_at : ℕ → Option Call
call_at opnum = one_of (plain_call_at opnum) (config_call_at opnum) (enum_call_at opnum) (security_call_at opnum)

-- every request has one
abbrev pub to_call : Request → Option Call
to_call r = one_of (plain_call_of r) (config_call_of r) (enum_call_of r) (security_call_of r)

abbrev pub reply_kind : Call → ReplyKind
reply_kind (call.Plain asked) = plain_reply_kind asked
reply_kind (call.Config asked) = config_reply_kind asked
reply_kind (call.Enum asked) = enum_reply_kind asked
reply_kind (call.Security asked) = security_reply_kind asked
