-- What the peer's PDUs tell a client, and what it writes meanwhile.
use Rattle.std.specs.Prelude.{ℕ, ◌≡◌, ◌+◌, Bool, true, false, not, ◌&&◌, ◌==◌, nat_lt, List, [], ◌∷◌, ◌++◌, length, take, Option, None}
use Rattle.std.specs.Prelude.{Some, is_none, option_and_then, option_map, Result, Ok, Err, bytes_eq, if◌then◌else◌}
use Rattle.std.specs.Result.{result_ok}
use Rattle.rpc_pdu.specs.declared.pdu.Ack.{Ack}
use Rattle.rpc_pdu.specs.declared.pdu.End.TheVariants.{Client}
use Rattle.rpc_pdu.specs.declared.pdu.FaultPdu.{FaultPdu}
use Rattle.rpc_pdu.specs.declared.pdu.Pdu.{Pdu}
use Rattle.rpc_pdu.specs.declared.pdu.Pdu.TheVariants as pdus
use Rattle.rpc_pdu.specs.declared.pdu.PduKind.{PduKind}
use Rattle.rpc_pdu.specs.declared.pdu.ResponsePdu.{ResponsePdu}
use Rattle.sc_client.specs.declared.requests.TheConstants.{NDR}
use Rattle.rpc_session.specs.Pdus.{Cut, CutEnd, Nothing, Part, BadAt, pdus_from}
use Rattle.scm_bodies.specs.declared.bodies.Call.{Call}
use Rattle.scm_bodies.specs.Calls.{to_call}
use Rattle.scm_bodies.specs.Replies.{reply_at}
use Rattle.scm_model.specs.declared.calls.Request.{Request}
use Rattle.sc_words.specs.declared.calls.Heard.{Heard}
use Rattle.sc_words.specs.declared.calls.Heard.TheVariants as heard
use Rattle.sc_words.specs.declared.command.Command.{Command}
use Rattle.sc_words.specs.Asks.{asks}
use Rattle.sc_client.specs.declared.talk.Talk.{Talk}
use Rattle.sc_client.specs.Requests.{bind_text, request_text}

-- ## One PDU

-- the bind goes by 1, and the requests by 2 and so on
abbrev pub call_after : List Heard → ℕ
call_after hs = length hs + 2

-- the call that is to be answered next
unfoldable pub expected : Command → List Heard → Option Call
expected c hs = option_and_then to_call (asks c hs)

-- what a whole stub tells in answer to a call
unfoldable pub heard_of : Option Call → List ℕ → Option Heard
heard_of None stub = None
heard_of (Some call) stub = option_map heard.Reply (result_ok (reply_at call stub))

abbrev pub stub_limit : ℕ
stub_limit = 1048576

-- one answer more
abbrev pub hearing : Talk → Heard → Talk
hearing t h = record { bound = t.bound; heard = t.heard ++ h ∷ []; part = [] }

-- no part of a reply was read
abbrev pub is_whole : Talk → Bool
is_whole t = length t.part == 0

-- a stub so far, or all of it
abbrev pub with_stub : Command → Talk → Bool → List ℕ → Option Talk
with_stub c t last stub =
    if nat_lt stub_limit (length stub) then None
    else if last then option_map (hearing t) (heard_of (expected c t.heard) stub)
    else Some (record { bound = t.bound; heard = t.heard; part = stub })

-- an answer is to the request that waits for one
abbrev pub answers : Talk → (call context : ℕ) → Bool
answers t call context = t.bound && (call == call_after t.heard && context == 0)

-- a response goes on where the last one ended, and has a stub
abbrev pub is_next_fragment : Talk → ResponsePdu (List ℕ) → Bool
is_next_fragment t r = (if r.first then is_whole t else not (is_whole t)) && nat_lt 0 (length r.stub)

unfoldable pub response_move : Command → Talk → ResponsePdu (List ℕ) → Option Talk
response_move c t r = if answers t r.call r.context && is_next_fragment t r then with_stub c t r.last (t.part ++ r.stub) else None

unfoldable pub fault_move : Talk → FaultPdu → Option Talk
fault_move t f = if answers t f.call f.context && is_whole t then Some (hearing t (heard.Fault f.status)) else None

-- acceptance in NDR
abbrev pub acceptance : List ℕ
acceptance = (0 ∷ 0 ∷ 0 ∷ 0 ∷ []) ++ NDR

-- the answer to the bind accepts its one context
unfoldable pub ack_move : Talk → Ack (List ℕ) → Option Talk
ack_move t a =
    if not t.bound && (a.call == 1 && bytes_eq (take 24 a.results) acceptance)
    then Some (record { bound = true; heard = t.heard; part = t.part }) else None

-- where a PDU leads, or none where it has no place
unfoldable pub pdu_move : Command → Talk → Pdu (List ℕ) → Option Talk
pdu_move c t (pdus.Response r) = response_move c t r
pdu_move c t (pdus.Fault f) = fault_move t f
pdu_move c t (pdus.BindAck a) = ack_move t a
pdu_move c t _ = None

-- ## What is written

abbrev pub some_request : ℕ → Option Request → List ℕ
some_request call None = []
some_request call (Some a) = request_text call a

-- the request that comes after these answers
unfoldable pub request_after : Command → List Heard → List ℕ
request_after c hs = some_request (call_after hs) (asks c hs)

-- what is due once a PDU was taken: where it makes an answer whole, the next request
abbrev pub due : Command → Talk → List ℕ
due c t = if is_whole t then request_after c t.heard else []

-- ## A stream

-- nothing is left to ask
unfoldable pub is_over : Command → Talk → Bool
is_over c t = t.bound && (is_whole t && is_none (asks c t.heard))

pub data TalkEnd : Type 0 where
  -- every request is answered
  Over : TalkEnd
  -- what begins at this place isn't in the formats, or no answer to what was asked
  Bad : ℕ → TalkEnd
  -- an answer isn't there
  Early : TalkEnd

-- how far a talk came, what was written in it, and how it ended
pub record Followed : Type 0 where
  pub talk : Talk
  pub text : List ℕ
  pub ending : TalkEnd

abbrev pub talk_end : CutEnd → TalkEnd
talk_end Nothing = Early
talk_end Part = Early
talk_end (BadAt place _) = Bad place

abbrev pub after_move : (Talk → Followed) → ℕ → Talk → List ℕ → Option Talk → Followed
after_move more place t text None = record { talk = t; text = text; ending = Bad place }
after_move more place t text (Some next) = more next

-- what the PDUs tell a client that came so far and wrote this text
unfoldable pub followed_by : Command → List (ℕ × Pdu (List ℕ)) → CutEnd → Talk → List ℕ → Followed
followed_by c [] ending t text = record { talk = t; text = text; ending = if is_over c t then Over else talk_end ending }
followed_by c (pdu ∷ pdus) ending t text =
    if is_over c t then record { talk = t; text = text; ending = Over }
    else after_move (λ next. followed_by c pdus ending next (text ++ due c next)) pdu.0 t text (pdu_move c t pdu.1)

abbrev pub followed_of : Command → Cut → Talk → List ℕ → Followed
followed_of c cut t text = followed_by c cut.pdus cut.ending t text

-- where a client begins
abbrev pub not_bound : Talk
not_bound = record { bound = false; heard = []; part = [] }

-- what the peer's bytes tell a client: it writes its bind, and then the first request and one more after each answer
unfoldable pub talk_of : Command → List ℕ → Followed
talk_of c stream = followed_of c (pdus_from Client 0 stream) not_bound bind_text
