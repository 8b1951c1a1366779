-- The bodies of replies, and which replies answer a request.
use Rattle.std.specs.Prelude.{◌≡◌, ℕ, List, take, Option, Some, None, Result, option_map}
use Rattle.scm_model.specs.declared.calls.Request.{Request}
use Rattle.scm_model.specs.declared.calls.Reply.{Reply}
use Rattle.scm_model.specs.declared.calls.Reply.TheVariants as reply
use Rattle.ndr_body.specs.declared.fault.BodyFault.{BodyFault}
use Rattle.ndr_body.specs.Laws.{filled}
use Rattle.scm_shapes.specs.Shapes.{body_bytes}
use Rattle.scm_shapes.specs.Calls.{read_as, Spells}
use Rattle.scm_calls.specs.declared.kinds.ReplyKind.{ReplyKind}
use Rattle.scm_calls.specs.Replies.{kind_of, reply_shape, reply_from, reply_values, asked_size, Fits, longest}
use Rattle.scm_bodies.specs.declared.bodies.Call.{Call}
use Rattle.scm_bodies.specs.Calls.{to_call, reply_kind}

-- what a body of a kind tells, or the first fault
abbrev pub reply_told : ReplyKind → List ℕ → Result Reply BodyFault
reply_told kind body = read_as (reply_shape kind) (reply_from kind) body

-- what a body of a call's reply tells
abbrev pub reply_at : Call → List ℕ → Result Reply BodyFault
reply_at asked body = reply_told (reply_kind asked) body

-- bytes are a body of a call's reply that tells this
abbrev pub IsBodyOf : Call → List ℕ → Reply → Type 0
IsBodyOf asked bytes told = Spells reply_shape (λ r. Some (kind_of r)) reply_values (reply_kind asked) bytes told

-- a reply is of the kind of the request's call, and fits in the size that the request asks for
abbrev pub Answers : Request → Reply → Type 0
Answers r told = (option_map reply_kind (to_call r) ≡ Some (kind_of told)) × Fits (asked_size r) told

abbrev pub bound_in : Option Call → ℕ → ℕ
bound_in None size = 0
bound_in (Some asked) size = longest (reply_kind asked) size

-- the greatest length of a reply that answers a request
abbrev pub reply_bound : Request → ℕ
reply_bound r = bound_in (to_call r) (asked_size r)

-- the one form that is written
abbrev pub reply_bytes : Reply → List ℕ
reply_bytes told = body_bytes (reply_values told)

-- what is read of a reply that is written: bytes come with zeros up to their size, and whatever is beyond it is left out
abbrev pub read_back : Reply → Reply
read_back (reply.Listing size bytes needed returned code) = reply.Listing size (filled (take size bytes) size) needed returned code
read_back (reply.Page size bytes needed returned resume code) = reply.Page size (filled (take size bytes) size) needed returned resume code
read_back (reply.Bytes size bytes needed code) = reply.Bytes size (filled (take size bytes) size) needed code
read_back told = told
