-- The bodies of a raise: the bytes of a subtype, and the code that is its reply.
use Rattle.std.specs.Prelude.{◌≡◌, ℕ, nat_lt, List, length, take, Result, Ok, Err, if◌then◌else◌}
use Rattle.ndr_body.specs.declared.fault.BodyFault.{BodyFault}
use Rattle.ndr_body.specs.declared.fault.BodyFault.TheVariants.{Short}
use Rattle.ndr_body.specs.Reading.{◌>>=◌, ended_at}
use Rattle.scm_model.specs.declared.calls.Reply.TheVariants as reply
use Rattle.scm_shapes.specs.Shapes.{first_number}
use Rattle.scm_shapes.specs.Calls.{read_as}
use Rattle.scm_shapes.specs.Bodies.{IsBody}
use Rattle.scm_calls.specs.declared.kinds.ReplyKind.TheVariants as kind
use Rattle.scm_calls.specs.declared.raises.TheConstants.{SUBTYPE_BYTES}
use Rattle.scm_calls.specs.Replies.{reply_shape, reply_values}

-- what a body raises, or the first fault; it ends as every body does
unfoldable pub raise_at : List ℕ → Result (List ℕ) BodyFault
raise_at body =
    if nat_lt (length body) SUBTYPE_BYTES then Err (Short 0)
    else (ended_at body SUBTYPE_BYTES >>= λ ended. Ok (take SUBTYPE_BYTES body))

-- Bytes are a body that raises a subtype: they are its own. With one to three more the length would be no multiple of 4.
pub record IsRaise (bytes subtype : List ℕ) : Type 0 where
  pub size : length subtype ≡ SUBTYPE_BYTES
  pub spelled : bytes ≡ subtype

-- the code that the body of a reply tells, or the first fault
abbrev pub raise_reply_at : List ℕ → Result ℕ BodyFault
raise_reply_at body = read_as (reply_shape kind.Code) first_number body

-- bytes are a body of a reply with this code
abbrev pub IsRaiseReply : List ℕ → ℕ → Type 0
IsRaiseReply bytes code = IsBody (reply_shape kind.Code) bytes (reply_values (reply.Code code))
