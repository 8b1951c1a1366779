-- What the items of a connection ask, and what they are answered.
use Rattle.std.specs.Prelude.{ℕ, ◌==◌, ◌++◌, List, [], ◌∷◌, drop, Option, None, Some, Result, Ok, Err, if◌then◌else◌}
use Rattle.std.specs.List.{filter_map}
use Rattle.scm_model.specs.declared.calls.Reply.{Reply}
use Rattle.scm_model.specs.declared.calls.Reply.TheVariants as reply
use Rattle.scm_model.specs.declared.codes.TheConstants.{ERROR_NOT_ENOUGH_MEMORY}
use Rattle.scm_model.specs.Refused.{refused}
use Rattle.ndr_body.specs.declared.fault.BodyFault.{BodyFault}
use Rattle.scm_calls.specs.declared.raises.TheConstants.{RAISE}
use Rattle.scm_calls.specs.Raises.{raise_at}
use Rattle.scm_bodies.specs.declared.bodies.Call.{Call as Served}
use Rattle.scm_bodies.specs.Calls.{call_at}
use Rattle.scm_bodies.specs.Requests.{request_at}
use Rattle.scm_bodies.specs.Replies.{reply_bytes as body_of}
use Rattle.rpc_pdu.specs.Written.{fault_bytes}
use Rattle.rpc_session.specs.Replies.{reply_fragments as fragments_of}
use Rattle.rpc_session.specs.declared.contexts.Interface.{Interface}
use Rattle.rpc_session.specs.declared.contexts.Interface.TheVariants.{Svcctl, Trigger}
use Rattle.rpc_session.specs.declared.state.Incoming.{Incoming}
use Rattle.rpc_session.specs.declared.state.Incoming.TheVariants.{Local, Request}
use Rattle.rpc_session.specs.declared.state.RequestItem.{RequestItem}
use Rattle.conn_desk.specs.declared.asked.DecodedRequest.{DecodedRequest}
use Rattle.conn_desk.specs.declared.asked.DecodedRequest.TheVariants as asks

-- ## Requests

-- a body that can't be read is nca_s_fault_ndr
abbrev pub or_fault : {A : Type 0} → (A → DecodedRequest) → Result A BodyFault → Result DecodedRequest ℕ
or_fault make (Ok content) = Ok (make content)
or_fault make (Err fault) = Err 0x6F7

-- a call that isn't served is nca_op_rng_error
abbrev pub asked_of_call : Option Served → List ℕ → Result DecodedRequest ℕ
asked_of_call (Some call) body = or_fault asks.Call (request_at call body)
asked_of_call None body = Err 0x1C010002

-- what is asked, or the status of the fault that is answered; the trigger interface has one method
unfoldable pub asked_in : Interface → ℕ → List ℕ → Result DecodedRequest ℕ
asked_in Trigger opnum body = if opnum == RAISE then or_fault asks.Raise (raise_at body) else Err 0x1C010002
asked_in Svcctl opnum body = asked_of_call (call_at opnum) body

abbrev pub asked_of : RequestItem → Result DecodedRequest ℕ
asked_of r = asked_in r.interface r.opnum r.body

abbrev pub call_in : Result DecodedRequest ℕ → Option DecodedRequest
call_in (Ok request) = Some request
call_in (Err status) = None

-- what an item asks of the manager, if it does
abbrev pub asked_by : Incoming → Option DecodedRequest
asked_by (Local bytes) = None
asked_by (Request r) = call_in (asked_of r)

-- what the items ask, in order
abbrev pub asked : List Incoming → List DecodedRequest
asked items = filter_map asked_by items

-- ## Replies

-- what is asked, refused with a code
abbrev pub refusal_with : DecodedRequest → ℕ → Reply
refusal_with (asks.Call request) code = refused request code
refusal_with (asks.Raise subtype) code = reply.Code code

-- what a request was told: a reply, or that there was no memory for it
abbrev pub reply_to : DecodedRequest → Option Reply → Reply
reply_to request (Some told) = told
reply_to request None = refusal_with request ERROR_NOT_ENOUGH_MEMORY

-- the response to a request
abbrev pub response : RequestItem → Reply → List ℕ
response r reply = fragments_of r.transmit r.call r.context (body_of reply)

-- the fault that a request is answered
abbrev pub fault : RequestItem → ℕ → List ℕ
fault r status = fault_bytes (record { call = r.call; hint = 0; context = r.context; status = status })

-- the bytes that answer a request, where these replies come next
abbrev pub answer_to : RequestItem → Result DecodedRequest ℕ → List (Option Reply) → List ℕ
answer_to r (Err status) replies = fault r status
answer_to r (Ok request) [] = []
answer_to r (Ok request) (told ∷ replies) = response r (reply_to request told)

-- the bytes that answer an item, where these replies come next
abbrev pub answer_of : Incoming → List (Option Reply) → List ℕ
answer_of (Local bytes) replies = bytes
answer_of (Request r) replies = answer_to r (asked_of r) replies

-- the replies that are left after a request
abbrev pub replies_after : Option DecodedRequest → List (Option Reply) → List (Option Reply)
replies_after None replies = replies
replies_after (Some request) replies = drop 1 replies

-- what a connection is answered: each item its own bytes, or those of the next reply
abbrev pub spoken : List Incoming → List (Option Reply) → List ℕ
spoken [] replies = []
spoken (item ∷ items) replies = answer_of item replies ++ spoken items (replies_after (asked_by item) replies)
